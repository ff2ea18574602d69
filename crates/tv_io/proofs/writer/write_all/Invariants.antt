use Rattle.std.proofs.Common.{◌-◌, ◌≤◌, length, take}
use Rattle.tv_io.specs.Writer.{Takes}
use Rattle.tv_io.proofs.writer.write_all.Given as goal

abbrev pub invariant-loop-taken : goal.invariant-loop-taken
invariant-loop-taken g l = (l.taken ≤ length l.text) × Takes (g.W.Writer.seen l.fn.out) (g.W.Writer.seen l.out) (take l.taken l.text)

abbrev pub decreases-loop-taken : goal.decreases-loop-taken
decreases-loop-taken g l = length l.text - l.taken
