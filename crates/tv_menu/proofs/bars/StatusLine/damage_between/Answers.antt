use Rattle.std.proofs.Common.{◌≡◌, All, subst}
use Rattle.tv_cells.specs.Damage.{HasAll}
use Rattle.tv_menu.specs.Cells.{is_item_in}
use Rattle.tv_menu.proofs.DamageLemmas.{line-added, line-kept}
use Rattle.tv_menu.proofs.bars.StatusLine.damage_between.Goals as goal

pub returns-else-not-are_same-clause-line : goal.returns-else-not-are_same-clause-line
returns-else-not-are_same-clause-line c = λ d s t p of before after.
    line-kept d c.args.self.now of s t p c.args.damage.now c.args.old.now c.args.new.now before after c.args.self.now.lawful.each
    (subst (All (λ item. is_item_in c.args.old.now item ≡ is_item_in c.args.new.now item)) c.as_slice.ensures (c.are_same.ensures.0 c.if-not-are_same.false))

pub returns-then-not-are_same-clause-line : goal.returns-then-not-are_same-clause-line
returns-then-not-are_same-clause-line c = λ d s t p of before after.
    line-added d c.args.self.now of s t p c.add.new.self (subst (λ r. HasAll r c.add.new.self) c.row.ensures c.add.ensures.added)
