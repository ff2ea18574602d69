-- The text so far, and what is left.
use Rattle.std.proofs.Common.{◌≡◌, ◌++◌, length}
use Rattle.tv_boxes.specs.Arguments.{with_breaks}
use Rattle.tv_boxes.proofs.arguments.with_breaks.Given as goal

abbrev pub invariant-loop-left : goal.invariant-loop-left
invariant-loop-left l = l.chars ++ with_breaks l.left ≡ with_breaks l.text

abbrev pub decreases-loop-left : goal.decreases-loop-left
decreases-loop-left l = length l.left
