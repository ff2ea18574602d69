use Rattle.std.proofs.Common.{◌≡◌, ◌<◌, ℕ, false}
use Rattle.tv_cells.specs.Picture.{cell_at}
use Rattle.tv_play.specs.Cursor.{is_cursor}
use Rattle.tv_play.proofs.cursor.find_in_all.Given as goal

abbrev pub invariant-loop-row : goal.invariant-loop-row
invariant-loop-row l =
    (column row : ℕ) → column < l.screen.width → row < l.row → is_cursor (cell_at l.screen column row) ≡ false
