use Rattle.std.proofs.Common.{◌+◌, ◌<◌, length}
use Rattle.tv_picture.specs.Code.{pattern_of}
use Rattle.tv_picture.specs.Machine.{IsWhole}
use Rattle.tv_picture.proofs.PartLemmas.{GoesOn, Grows, TimesAfter}
use Rattle.tv_picture.proofs.parts.+parts.Given as goal

abbrev pub decreases-code_after : goal.decreases-code_after
decreases-code_after l = length l.code.now + length l.code.now

abbrev pub decreases-joined_after : goal.decreases-joined_after
decreases-joined_after l = length l.next.part.now + length l.next.part.now + 1

abbrev pub decreases-part_after : goal.decreases-part_after
decreases-part_after l = length l.part.now + length l.part.now

abbrev pub decreases-many_after : goal.decreases-many_after
decreases-many_after l = length l.body.now + length l.body.now + 1

abbrev pub decreases-times_after : goal.decreases-times_after
decreases-times_after l = length l.body.now + length l.body.now + 1

abbrev pub invariant-code_after-loop-rest : goal.invariant-code_after-loop-rest
invariant-code_after-loop-rest l = GoesOn l.first l.code l.text l.row l.rest

abbrev pub decreases-code_after-loop-rest : goal.decreases-code_after-loop-rest
decreases-code_after-loop-rest l = length l.rest

abbrev pub invariant-many_after-loop-round : goal.invariant-many_after-loop-round
invariant-many_after-loop-round l = Grows l.fn.first (pattern_of l.body) l.text l.row

abbrev pub invariant-times_after-loop-done : goal.invariant-times_after-loop-done
invariant-times_after-loop-done l = (0 < l.done → IsWhole l.body) × TimesAfter l.fn.first (pattern_of l.body) l.text l.done l.row
