-- The fields so far, and those of what is left.
use Rattle.std.proofs.Common.{◌≡◌, length}
use Rattle.tv_boxes.specs.Arguments.{fields_in}
use Rattle.tv_boxes.proofs.ArgumentLemmas.{behind}
use Rattle.tv_boxes.proofs.asking.form_fields.Given as goal

abbrev pub invariant-loop-left : goal.invariant-loop-left
invariant-loop-left l = behind l.fields (fields_in l.left) ≡ fields_in l.words

abbrev pub decreases-loop-left : goal.decreases-loop-left
decreases-loop-left l = length l.left
