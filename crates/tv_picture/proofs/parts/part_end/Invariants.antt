use Rattle.std.proofs.Common.{◌≤◌}
use Rattle.tv_picture.proofs.parts.part_end.Given as goal

abbrev pub invariant-loop-place : goal.invariant-loop-place
invariant-loop-place l = l.height ≤ l.place
