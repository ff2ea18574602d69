-- The rows of the items so far.
use Rattle.std.proofs.Common.{◌≡◌, ◌++◌, drop, map}
use Rattle.tv_boxes.specs.Items.{item_row, tag_columns}
use Rattle.tv_boxes.proofs.items.item_rows.Given as goal

abbrev pub invariant-loop-item : goal.invariant-loop-item
invariant-loop-item l = l.rows ++ map (item_row (tag_columns l.items)) (drop l.item-index l.items) ≡ map (item_row (tag_columns l.items)) l.items
