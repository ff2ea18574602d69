-- What is left is read from the settings so far.
use Rattle.std.proofs.Common.{◌≡◌, length}
use Rattle.tv_boxes.specs.Arguments.{read_from, request_in}
use Rattle.tv_boxes.proofs.arguments.read_request.Given as goal

abbrev pub invariant-loop-left : goal.invariant-loop-left
invariant-loop-left l = read_from l.settings l.left ≡ request_in l.words

abbrev pub decreases-loop-left : goal.decreases-loop-left
decreases-loop-left l = length l.left
