use Rattle.std.proofs.Common.{◌≡◌, false, sym, ap, ◌∙◌}
use Rattle.tv_machine.specs.Session.Dragging.{is_same_point}
use Rattle.tv_window.specs.Window.{moved_to, window_bounds}
use Rattle.tv_window.proofs.DeskDamageLemmas.{dragged-added}
use Rattle.tv_window.proofs.window.WindowOf.move_to.Goals as goal

pub returns-clause-damage : goal.returns-clause-damage
returns-clause-damage g c =
    let window = c.args.self.now in
    let apart : is_same_point c.point.result c.args.corner ≡ false = sym c.eq.ensures ∙ c.if-eq.false in
    dragged-added window c.args.corner c.bounds.result c.bounds-2.result c.args.damage.now c.add_with_shadow.new.self c.add_with_shadow-2.new.self
    (ap (λ p. is_same_point p c.args.corner) (sym c.point.ensures.is) ∙ apart) c.bounds.ensures.is
    (c.bounds-2.ensures.is ∙ ap (λ corner. window_bounds (moved_to corner window)) c.new-self.ensures) c.add_with_shadow.ensures c.add_with_shadow-2.ensures
