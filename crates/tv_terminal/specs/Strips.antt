-- The strips of a row: its cells, parted where their colours change.
use Rattle.std.specs.Prelude.{◌≡◌, ◌≢◌, ℕ, ◌<◌, ◌≤◌, ◌==◌, if◌then◌else◌, List, [], ◌∷◌, map}
use Rattle.std.specs.List.{range_with_len}
use Rattle.tv_cells.specs.Glyph.{Glyph, glyph}

-- cells of one attribute side by side, by their characters
pub record Strip : Type 0 where
  pub attr : ℕ
  pub chars : List ℕ

-- the cells of a strip
abbrev pub strip_cells : Strip → List Glyph
strip_cells s = map (λ ch. glyph ch s.attr) s.chars

-- a cell before characters of its attribute
abbrev pub strip_with : Glyph → List ℕ → Strip
strip_with g chars = record { attr = g.attr; chars = g.ch ∷ chars }

-- a cell before strips: it joins the first of them where that has its attribute
abbrev pub with_cell : Glyph → List Strip → List Strip
with_cell g [] = strip_with g [] ∷ []
with_cell g (s ∷ ss) =
    if s.attr == g.attr then strip_with g s.chars ∷ ss else strip_with g [] ∷ s ∷ ss

-- the strips of cells; of two side by side the attributes differ
abbrev pub strips_of : List Glyph → List Strip
strips_of [] = []
strips_of (g ∷ gs) = with_cell g (strips_of gs)

-- ---- of a row, by its cell in each column and row

-- some cells of a row, from a column on
abbrev pub cells_from : (ℕ → ℕ → Glyph) → (row column count : ℕ) → List Glyph
cells_from at row column count = map (λ c. at c row) (range_with_len column count)

-- their characters
abbrev pub chars_from : (ℕ → ℕ → Glyph) → (row column count : ℕ) → List ℕ
chars_from at row column count = map (λ c. (at c row).ch) (range_with_len column count)

-- the characters as a strip, of the first cell's attribute
abbrev pub strip_from : (ℕ → ℕ → Glyph) → (row column count : ℕ) → Strip
strip_from at row column count =
    record { attr = (at column row).attr; chars = chars_from at row column count }

-- the strip that begins in a column ends before another
pub record IsFirstStrip (width : ℕ) (at : ℕ → ℕ → Glyph) (row column end : ℕ) : Type 0 where
  pub some : column < end
  pub within : end ≤ width
  pub alike : (k : ℕ) → column ≤ k → k < end → (at k row).attr ≡ (at column row).attr
  pub whole : end < width → (at end row).attr ≢ (at column row).attr
