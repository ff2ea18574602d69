use Rattle.tv_machine.specs.Session.Laid.{laid}
use Rattle.tv_session.proofs.run.RunOf.lay.Goals as goal

pub returns : goal.returns
returns g c = λ s r fit line.
    let d = c.args.desc.now in
    c.mark_changes.ensures d s (laid d c.args.id c.args.sheet s) (c.before-before.ensures d s r) line (c.lay_below.ensures s r fit)
