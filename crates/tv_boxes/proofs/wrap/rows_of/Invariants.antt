-- The rows so far are those of the characters so far.
use Rattle.std.proofs.Common.{◌≡◌, fold, take}
use Rattle.tv_boxes.specs.Wrapping.{added, nothing_added}
use Rattle.tv_boxes.proofs.wrap.rows_of.Given as goal

abbrev pub invariant-loop-letter : goal.invariant-loop-letter
invariant-loop-letter l = l.rows ≡ fold (added l.width) nothing_added (take l.letter-index l.text)
