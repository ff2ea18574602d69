use Rattle.std.proofs.Common.{sym, ◌∙◌, rules, w64, SFits}
use Rattle.std.proofs.lemmas.Int.{to_z-of_z}
use Rattle.tv_menu.proofs.BoxLemmas.{under_is}
use Rattle.tv_menu.proofs.bars.MenuBar.item_under.Goals as goal

pub returns-then-contains : goal.returns-then-contains
returns-then-contains c = λ d of.
    let fits : SFits w64 c.rows_between.result = search rules in
    let row = simp to_z-of_z at c.natural.ensures in
    under_is d c.args.place c.args.point c.box_of-bounds.result c.without_edge.result c.rows_between.result c.natural.result
    (c.box_of-bounds.ensures.is d of) c.without_edge.ensures (sym (c.is_on_desktop.ensures d of) ∙ c.if-is_on_desktop.true) (sym c.contains.ensures ∙ c.if-contains.true)
    c.rows_between.ensures row
