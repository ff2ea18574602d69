-- The labels so far, and those that are left.
use Rattle.std.proofs.Common.{◌≡◌, ◌++◌, drop, map}
use Rattle.tv_boxes.specs.Views.{label_row}
use Rattle.tv_boxes.proofs.views.labels.Given as goal

abbrev pub invariant-loop-field : goal.invariant-loop-field
invariant-loop-field l = l.views.items ++ map (label_row l.above) (drop l.field-index l.fields) ≡ map (label_row l.above) l.fields
