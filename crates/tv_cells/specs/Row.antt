-- Cells of a row of a face.
use Rattle.std.specs.Prelude.{◌≡◌, ℕ, ◌+◌, ◌<◌, ◌≤◌, List, length, slice_index_or}
use Rattle.tv_cells.specs.Glyph.{Glyph, blank}

-- the cells are those of a row from a column on
pub record IsRow (row : ℕ → Glyph) (from : ℕ) (cells : List Glyph) : Type 0 where
  pub each : (i : ℕ) → i < length cells → slice_index_or cells i blank ≡ row (from + i)

-- columns from one on and before another, in one row
pub record IsInRow (left right this column row : ℕ) : Type 0 where
  pub after : left ≤ column
  pub before : column < right
  pub here : row ≡ this
