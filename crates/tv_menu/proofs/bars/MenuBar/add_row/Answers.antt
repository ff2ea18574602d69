use Rattle.std.proofs.Common.{subst, sym, ◌∙◌}
use Rattle.tv_cells.specs.Damage.{HasAll}
use Rattle.tv_menu.specs.Bar.{open_of}
use Rattle.tv_menu.specs.Damage.{menu_seen}
use Rattle.tv_menu.proofs.DamageLemmas.{bar-added, bar-kept, places-same}
use Rattle.tv_menu.proofs.bars.MenuBar.add_row.Goals as goal

pub returns-then-ne-clause-bar : goal.returns-then-ne-clause-bar
returns-then-ne-clause-bar c = λ d p of.
    bar-added d c.args.self.now of p c.add.new.self (menu_seen c.args.before) (open_of c.args.self.now) (subst (λ r. HasAll r c.add.new.self) c.row.ensures c.add.ensures.added)

pub returns-else-ne-clause-bar : goal.returns-else-ne-clause-bar
returns-else-ne-clause-bar c = λ d p of.
    bar-kept d c.args.self.now of p c.args.damage.now (menu_seen c.args.before) (open_of c.args.self.now)
    (sym c.menu_of.ensures ∙ places-same c.menu_of.result c.open_place.result (sym c.ne.ensures ∙ c.if-ne.false) ∙ c.open_place.ensures)
