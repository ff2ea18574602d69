-- The texts so far, without a mark.
use Rattle.std.proofs.Common.{◌≡◌, map}
use Rattle.tv_boxes.specs.Items.{unmarked}
use Rattle.tv_boxes.proofs.items.unmarked.Given as goal

abbrev pub invariant-loop-text : goal.invariant-loop-text
invariant-loop-text l = l.marked ≡ map unmarked l.yielded
