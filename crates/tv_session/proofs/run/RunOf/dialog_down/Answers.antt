use Rattle.std.proofs.Common.{Bool, if◌then◌else◌, ap, subst, sym, ◌∙◌}
use Rattle.std.specs.Prelude.{slice_get}
use Rattle.tv_event.specs.declared.event.Event.TheVariants as events
use Rattle.tv_laws.proofs.RunLemmas.{given_down}
use Rattle.tv_machine.specs.Session.Desktop.{seen_from}
use Rattle.tv_machine.specs.Session.Dragging.{grabbed, is_grip_of}
use Rattle.tv_machine.specs.Session.Step.{to_dialog}
use Rattle.tv_session.specs.Running.{IsRunSince}
use Rattle.tv_session.proofs.DraggingLemmas.{gripped, not-gripped}
use Rattle.tv_session.proofs.run.RunOf.dialog_down.Goals as goal

pub returns-in-Some : goal.returns-in-Some
returns-in-Some g c = λ since s o w some.
    let d = c.args.desc.now in
    let p = c.args.point in
    let r = w.0.stands in
    let grip = is_grip_of (slice_get d.dialogs o.place) (seen_from o.origin p) in
    let told = gripped grip o.origin c.in-Some.corner (sym c.in-Some.is ∙ c.grip.ensures.held d s o r.dialogs some) in
    subst (λ t. IsRunSince g.V.View.meaning d since t c.grab.new.self)
    (ap (λ corner. grabbed corner p s) (sym told.1) ∙ sym (ap (λ (b : Bool). if b then grabbed o.origin p s else to_dialog d o (events.Down p) s) told.0))
    (c.grab.ensures d since s (r, w.1))

pub returns-in-None : goal.returns-in-None
returns-in-None g c = λ since s o w some.
    let d = c.args.desc.now in
    let p = c.args.point in
    let r = w.0.stands in
    let grip = is_grip_of (slice_get d.dialogs o.place) (seen_from o.origin p) in
    let told = not-gripped grip o.origin (sym c.in-None.is ∙ c.grip.ensures.held d s o r.dialogs some) in
    subst (λ t. IsRunSince g.V.View.meaning d since t c.hand_to_dialog.new.self)
    (sym (ap (λ (b : Bool). if b then grabbed o.origin p s else to_dialog d o (events.Down p) s) told))
    (c.hand_to_dialog.ensures since s o w some (given_down o.held p))
