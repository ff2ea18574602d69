use Rattle.std.proofs.Common.{arith}
use Rattle.std.proofs.lemmas.Grind.{common_steps}
use Rattle.tv_explain.proofs.explaining.explain.Goals as goal

pub loop-fault-preserved : goal.loop-fault-preserved
loop-fault-preserved c = grind (arith, common_steps, c.loop-fault.invariant, c.push.ensures.ok, c.in_ok-told.ensures c.args.text.now c.in_ok-places.ensures)
