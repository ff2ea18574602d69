use Rattle.std.proofs.Common.{◌∙◌, ap, subst, sym}
use Rattle.tv_app.specs.Running.{Runs}
use Rattle.tv_machine.specs.State.{State}
use Rattle.tv_machine.specs.Run.{Session}
use Rattle.tv_machine.specs.Session.Start.{start}
use Rattle.tv_machine.specs.Session.Step.{step}
use Rattle.tv_ways.specs.Running.{ran}
use Rattle.tv_ways.proofs.RunningLemmas.{states_more}
use Rattle.tv_ways.proofs.running.make_all.Goals as goal

-- there is a run
pub step-requires-clause-there : goal.step-requires-clause-there
step-requires-clause-there c = (ran c.requires.0 c.loop-next.events, c.loop-next.invariant c.requires.0 c.requires.1)

-- it goes on by the event
pub loop-next-preserved : goal.loop-next-preserved
loop-next-preserved c =
    λ d runs.
    let events = c.loop-next.events in
    let event = c.event-event.result in
    let after = c.step.ensures.goes_on (ran d events) (c.loop-next.invariant d runs) in
    let more = ap (λ (s : State). let session : Session = record { desc = d; state = s } in session) (sym (states_more (step d) (start d) events event)) in
    subst (λ (session : Session). Runs c.step.new.self session) (more ∙ ap (ran d) (sym c.in_ok-push.ensures.ok)) after
