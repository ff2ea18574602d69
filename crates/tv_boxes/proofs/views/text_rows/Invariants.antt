-- The views of the rows so far.
use Rattle.std.proofs.Common.{◌≡◌, [], fold, take}
use Rattle.tv_boxes.specs.Views.{with_row}
use Rattle.tv_boxes.proofs.views.text_rows.Given as goal

abbrev pub invariant-loop-text : goal.invariant-loop-text
invariant-loop-text l = l.views.items ≡ fold (with_row l.columns) [] (take l.text-index l.rows)
