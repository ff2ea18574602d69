use Rattle.std.proofs.Common.{◌≡◌, ◌≤◌, ◌<◌, ℕ, false}
use Rattle.tv_cells.specs.Picture.{cell_at}
use Rattle.tv_play.specs.Cursor.{is_cursor}
use Rattle.tv_play.proofs.cursor.find_in_row.Given as goal

abbrev pub invariant-loop-column : goal.invariant-loop-column
invariant-loop-column l =
    (column : ℕ) → l.left ≤ column → column < l.column → is_cursor (cell_at l.screen column l.row) ≡ false
