use Rattle.std.proofs.Common.{Some, inl, inr, is_some, ap, subst, sym, ◌∙◌}
use Rattle.tv_laws.specs.Steps.{RespectsHold}
use Rattle.tv_laws.proofs.RunLemmas.{given_move, given_up}
use Rattle.tv_machine.specs.Session.Step.{step_held, to_dialog}
use Rattle.tv_session.specs.Running.{IsRunSince}
use Rattle.tv_session.proofs.CommandLemmas.{held_in, same_some}
use Rattle.tv_session.proofs.run.RunOf.held_event.Goals as goal

pub returns-in-Move : goal.returns-in-Move
returns-in-Move g c = λ since s o w held.
    let d = c.args.desc.now in
    let look = g.V.View.meaning in
    let found = held_in s.dialog (ap is_some held) in
    let here = found.1 ∙ ap Some (same_some found.0 o (sym found.2 ∙ held)) in
    elim c.in-Move.is [
      | inl moved ↦
          subst (λ t. IsRunSince look d since t c.hand_to_dialog.new.self) (ap (λ e. to_dialog d o e s) moved.1 ∙ sym (ap (λ e. step_held d o e s) moved.1))
          (c.hand_to_dialog.ensures since s o w here (subst (RespectsHold o.held) (sym moved.1) (given_move o.held moved.0)))
      | inr up ↦
          subst (λ t. IsRunSince look d since t c.hand_to_dialog.new.self) (ap (λ e. to_dialog d o e s) up.1 ∙ sym (ap (λ e. step_held d o e s) up.1))
          (c.hand_to_dialog.ensures since s o w here (subst (RespectsHold o.held) (sym up.1) (given_up o.held up.0)))
    ]
