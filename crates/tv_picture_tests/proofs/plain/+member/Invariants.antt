use Rattle.std.proofs.Common.{◌+◌, ◌-◌, length}
use Rattle.tv_picture.specs.Pattern.{IsMember, many, times}
use Rattle.tv_picture_tests.specs.Trees.{pattern_of}
use Rattle.tv_picture_tests.proofs.Weights.{weight}
use Rattle.tv_picture_tests.proofs.Splits.{NoneBelow}
use Rattle.tv_picture_tests.proofs.plain.+member.Given as goal

abbrev pub decreases-is_member : goal.decreases-is_member
decreases-is_member l = weight l.tree.now + length l.text.now

abbrev pub decreases-is_sequence : goal.decreases-is_sequence
decreases-is_sequence l = weight l.first.now + weight l.second.now + 1 + length l.text.now

abbrev pub decreases-is_many : goal.decreases-is_many
decreases-is_many l = weight l.part.now + 1 + length l.text.now

abbrev pub decreases-is_times : goal.decreases-is_times
decreases-is_times l = weight l.part.now + l.count + 1 + length l.text.now

abbrev pub invariant-is_sequence-loop-at : goal.invariant-is_sequence-loop-at
invariant-is_sequence-loop-at l = NoneBelow (IsMember (pattern_of l.first)) (IsMember (pattern_of l.second)) l.text 0 l.at

abbrev pub invariant-is_many-loop-at : goal.invariant-is_many-loop-at
invariant-is_many-loop-at l = NoneBelow (IsMember (pattern_of l.part)) (IsMember (many (pattern_of l.part))) l.text 1 l.at

abbrev pub invariant-is_times-loop-at : goal.invariant-is_times-loop-at
invariant-is_times-loop-at l = NoneBelow (IsMember (pattern_of l.part)) (IsMember (times (l.count - 1) (pattern_of l.part))) l.text 0 l.at
