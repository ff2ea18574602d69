-- The inputs so far.
use Rattle.std.proofs.Common.{◌≡◌, [], fold, take}
use Rattle.tv_boxes.specs.Views.{with_input}
use Rattle.tv_boxes.proofs.views.inputs.Given as goal

abbrev pub invariant-loop-field : goal.invariant-loop-field
invariant-loop-field l = l.views.items ≡ fold (with_input l.above) [] (take l.field-index l.fields)
