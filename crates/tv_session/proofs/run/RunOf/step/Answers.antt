use Rattle.tv_machine.specs.Session.Step.{step}
use Rattle.tv_session.proofs.run.RunOf.step.Goals as goal

pub returns : goal.returns
returns g c = λ s r fit line.
    let d = c.args.desc.now in
    c.mark_changes.ensures d s (step d s c.args.event.now) (c.before-before.ensures d s r) line (c.handle.ensures s r fit line)
