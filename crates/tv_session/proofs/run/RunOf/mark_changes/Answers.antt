use Rattle.std.proofs.Common.{[], ◌∷◌, is_none, sym, subst, ◌∙◌}
use Rattle.tv_cells.specs.Repainting.{AreAlike}
use Rattle.tv_machine.specs.Screen.Layers.{bar_layer, box_layers}
use Rattle.tv_menu.specs.Damage.{menu_seen}
use Rattle.tv_session.proofs.ChangedLemmas.{changed, front-either, front-same, same-bools}
use Rattle.tv_session.proofs.run.RunOf.mark_changes.Goals as goal

pub returns-then-is_open-before : goal.returns-then-is_open-before
returns-then-is_open-before g c = λ d s t before of since.
    let run = c.args.self.now in
    let one = c.damage_since.new.damage in
    let two = c.damage_between.new.damage in
    let last = c.front_damage.new.damage in
    let r = since.0 in
    changed g.V.View.meaning d s t run one two last r since.1 c.damage_since.ensures.kept c.damage_between.ensures.grown.kept c.front_damage.ensures.added.grown.kept
    (λ p. subst (λ o. AreAlike p one (bar_layer d o ∷ []) (bar_layer d t.menu ∷ [])) before.menu
    (subst (λ o. AreAlike p one (bar_layer d (menu_seen c.args.before.now.menu) ∷ []) (bar_layer d o ∷ [])) (sym r.menu) (c.damage_since.ensures.bar d p r.bar)))
    (λ p. subst (λ o. AreAlike p one (box_layers d o) (box_layers d t.menu)) before.menu
    (subst (λ o. AreAlike p one (box_layers d (menu_seen c.args.before.now.menu)) (box_layers d o)) (sym r.menu) (c.damage_since.ensures.menu d p r.bar)))
    (λ p. c.damage_between.ensures.line d s t p of before.commands (record { each = c.commands.ensures d t r.dialogs }))
    (λ p. front-either d p last s t (is_none s.dialog) (is_none t.dialog) (c.front_damage.ensures.active d t.windows p r.desk))

pub returns-else-is_open-before : goal.returns-else-is_open-before
returns-else-is_open-before g c = λ d s t before of since.
    let run = c.args.self.now in
    let one = c.damage_since.new.damage in
    let two = c.damage_between.new.damage in
    let r = since.0 in
    changed g.V.View.meaning d s t run one two two r since.1 c.damage_since.ensures.kept c.damage_between.ensures.grown.kept (λ x y e. e)
    (λ p. subst (λ o. AreAlike p one (bar_layer d o ∷ []) (bar_layer d t.menu ∷ [])) before.menu
    (subst (λ o. AreAlike p one (bar_layer d (menu_seen c.args.before.now.menu) ∷ []) (bar_layer d o ∷ [])) (sym r.menu) (c.damage_since.ensures.bar d p r.bar)))
    (λ p. subst (λ o. AreAlike p one (box_layers d o) (box_layers d t.menu)) before.menu
    (subst (λ o. AreAlike p one (box_layers d (menu_seen c.args.before.now.menu)) (box_layers d o)) (sym r.menu) (c.damage_since.ensures.menu d p r.bar)))
    (λ p. c.damage_between.ensures.line d s t p of before.commands (record { each = c.commands.ensures d t r.dialogs }))
    (λ p. front-same d p two s t (sym (c.is_open.ensures d t r.dialogs) ∙ same-bools c.is_open.result c.args.before.now.is_open c.if-is_open-before.false ∙ before.is_open))
