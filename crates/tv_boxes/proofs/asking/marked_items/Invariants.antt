-- The items so far, and those of what is left.
use Rattle.std.proofs.Common.{◌≡◌, ◌++◌, length, option_map}
use Rattle.tv_boxes.specs.Arguments.{marked_items}
use Rattle.tv_boxes.proofs.asking.marked_items.Given as goal

abbrev pub invariant-loop-left : goal.invariant-loop-left
invariant-loop-left l = option_map (λ more. l.items ++ more) (marked_items l.left) ≡ marked_items l.words

abbrev pub decreases-loop-left : goal.decreases-loop-left
decreases-loop-left l = length l.left
