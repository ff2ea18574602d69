-- What a screen shows, and how a drawing changes it.
use Rattle.std.specs.Prelude.{◌≡◌, ℕ, ◌+◌, ◌*◌, ◌<◌, ◌≤◌, List, length, slice_index_or}
use Rattle.tv_cells.specs.Glyph.{Glyph, blank}

-- the cells, row by row
pub record Picture : Type 0 where
  pub width : ℕ
  pub height : ℕ
  pub cells : List Glyph

-- the sizes that a screen may have
pub record IsScreenSize (width height : ℕ) : Type 0 where
  pub least_width : 20 ≤ width
  pub most_width : width ≤ 132
  pub least_height : 10 ≤ height
  pub most_height : height ≤ 60

-- there is a cell for each column of each row
pub record IsPictureOf (width height : ℕ) (cells : List Glyph) : Type 0 where
  pub size : IsScreenSize width height
  pub full : length cells ≡ width * height

-- the cell in a column and a row
abbrev pub cell_at : Picture → ℕ → ℕ → Glyph
cell_at p column row = slice_index_or p.cells (row * p.width + column) blank

-- a column and a row of the picture
pub record IsOn (p : Picture) (column row : ℕ) : Type 0 where
  pub across : column < p.width
  pub down : row < p.height

-- two pictures of one size
pub record IsAlike (old new : Picture) : Type 0 where
  pub width : new.width ≡ old.width
  pub height : new.height ≡ old.height

-- each cell of the region becomes f of what it was, and no other cell changes
pub record Changes (Region : ℕ → ℕ → Type 0) (f : ℕ → ℕ → Glyph → Glyph) (old new : Picture) : Type 0 where
  pub size : IsAlike old new
  pub inside : (column row : ℕ) → IsOn old column row → Region column row
      → cell_at new column row ≡ f column row (cell_at old column row)
  pub outside : (column row : ℕ) → IsOn old column row → (Region column row → ⊥)
      → cell_at new column row ≡ cell_at old column row

-- this column and this row
abbrev pub IsPlace : ℕ → ℕ → ℕ → ℕ → Type 0
IsPlace column row x y = (x ≡ column) × (y ≡ row)
