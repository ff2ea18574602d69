use Rattle.std.proofs.Common.{◌+◌, ◌-◌, length}
use Rattle.tv_picture.specs.Pattern.{IsMember, Begins, many, times}
use Rattle.tv_picture_tests.specs.Trees.{pattern_of}
use Rattle.tv_picture_tests.proofs.Weights.{weight}
use Rattle.tv_picture_tests.proofs.Splits.{NoneBelow}
use Rattle.tv_picture_tests.proofs.plain.+beginning.Given as goal

abbrev pub decreases-begins : goal.decreases-begins
decreases-begins l = weight l.tree.now + length l.text.now

abbrev pub decreases-begins_sequence : goal.decreases-begins_sequence
decreases-begins_sequence l = weight l.first.now + weight l.second.now + 1 + length l.text.now

abbrev pub decreases-begins_many : goal.decreases-begins_many
decreases-begins_many l = weight l.part.now + 1 + length l.text.now

abbrev pub decreases-begins_times : goal.decreases-begins_times
decreases-begins_times l = weight l.part.now + l.count + 1 + length l.text.now

abbrev pub invariant-begins_sequence-loop-at : goal.invariant-begins_sequence-loop-at
invariant-begins_sequence-loop-at l = NoneBelow (IsMember (pattern_of l.first)) (Begins (pattern_of l.second)) l.text 0 l.at

abbrev pub invariant-begins_many-loop-at : goal.invariant-begins_many-loop-at
invariant-begins_many-loop-at l = NoneBelow (IsMember (pattern_of l.part)) (Begins (many (pattern_of l.part))) l.text 1 l.at

abbrev pub invariant-begins_times-loop-at : goal.invariant-begins_times-loop-at
invariant-begins_times-loop-at l = NoneBelow (IsMember (pattern_of l.part)) (Begins (times (l.count - 1) (pattern_of l.part))) l.text 0 l.at
