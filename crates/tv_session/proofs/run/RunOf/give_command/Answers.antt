use Rattle.tv_machine.specs.Session.Step.{give_command}
use Rattle.tv_session.proofs.run.RunOf.give_command.Goals as goal

pub returns-clause-stands : goal.returns-clause-stands
returns-clause-stands g c = λ s r fit line.
    let d = c.args.desc.now in
    c.mark_changes.ensures d s (give_command d s c.args.command.0) (c.before-before.ensures d s r) line (c.give-taken.ensures.stands s r fit)
