use Rattle.std.proofs.Common.{pos}
use Rattle.tv_example_app.proofs.leave.Goals as goal

-- the law of leaving holds of the state to which the run has come
pub returns : goal.returns
returns c =
    let s = c.requires.0 in
    let r = c.requires.1 in (
      _,
      c.step-2.ensures.goes_on _ (c.step.ensures.goes_on s r),
      r.laws.leaves.leaves s.state (record { x = pos 0; y = pos 0 }) r.fit,
    )
