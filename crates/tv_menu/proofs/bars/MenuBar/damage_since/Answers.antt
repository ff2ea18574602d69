use Rattle.tv_menu.proofs.DamageLemmas.{alike-more, boxes-added, box-within}
use Rattle.tv_menu.proofs.bars.MenuBar.damage_since.Goals as goal

pub returns-clause-bar : goal.returns-clause-bar
returns-clause-bar c = λ d p of.
    alike-more p c.add_row.new.damage c.add_box-2.new.damage _ _ (λ x y e. c.add_box-2.ensures.kept x y (c.add_box.ensures.kept x y e)) (c.add_row.ensures.bar d p of)

pub returns-clause-menu : goal.returns-clause-menu
returns-clause-menu c = λ d p of. boxes-added d p _ _ _ _ _ (c.add_box.ensures.added d of) (c.add_box-2.ensures.added d of)

pub returns-clause-within : goal.returns-clause-within
returns-clause-within c = λ d r of old all. box-within _ r _ _ _ _ _ _ c.add_row.ensures.grown (c.add_box.ensures.added d of) (c.add_box-2.ensures.added d of) old all
