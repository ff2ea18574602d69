-- What a terminal shows of a picture.
use Rattle.std.specs.Prelude.{◌≡◌, ℕ, ◌≤◌, ◌<◌, ◌+◌, true, false, Option, Some, None, IfSome, List}
use Rattle.tv_cells.specs.Glyph.{Glyph, IsNarrow}
use Rattle.tv_cells.specs.Picture.{Picture, IsOn, cell_at}
use Rattle.tv_terminal.specs.Written.{back_of, front_of}
use Rattle.tv_terminal.specs.Terminal.{Tile, Display, ground, told, with_tile}
use Rattle.tv_terminal.specs.declared.colour.Colours.{Colours}

-- the place that shows a glyph
abbrev pub tile_of : Colours → Glyph → Tile
tile_of colours g = record { ch = g.ch; front = front_of colours g.attr; back = back_of colours g.attr }

-- there is room for the picture
pub record HasSpace (p : Picture) (d : Display) : Type 0 where
  pub across : p.width ≤ d.columns
  pub down : p.height ≤ d.rows

-- and each of its cells shows, from the corner on
pub record Displays (colours : Colours) (p : Picture) (d : Display) : Type 0 where
  pub room : HasSpace p d
  pub each : (column row : ℕ) → IsOn p column row → d.cells column row ≡ tile_of colours (cell_at p column row)

-- the size and the modes are as before, and nothing was told that is not in the definition
pub record Stays (old new : Display) : Type 0 where
  pub columns : new.columns ≡ old.columns
  pub rows : new.rows ≡ old.rows
  pub mouse : new.has_mouse ≡ old.has_mouse
  pub reports : new.has_long_reports ≡ old.has_long_reports
  pub meta : new.has_meta_escapes ≡ old.has_meta_escapes
  pub alt : new.has_alt_escapes ≡ old.has_alt_escapes
  pub pastes : new.has_paste_brackets ≡ old.has_paste_brackets
  pub bells : new.bells ≡ old.bells
  pub covered : new.covered ≡ old.covered
  pub lost : new.is_lost ≡ old.is_lost

-- in a region each cell of the picture shows, and no place outside it has changed
pub record ShowsIn (colours : Colours) (Region : ℕ → ℕ → Type 0) (p : Picture) (old new : Display) : Type 0 where
  pub inside : (column row : ℕ) → IsOn p column row → Region column row
      → new.cells column row ≡ tile_of colours (cell_at p column row)
  pub outside : (column row : ℕ) → (Region column row → ⊥) → new.cells column row ≡ old.cells column row

-- the cursor shows at a place, or not at all
abbrev pub HasCursor : Option (ℕ × ℕ) → Display → Type 0
HasCursor None d = d.has_cursor ≡ false
HasCursor (Some p) d = (d.has_cursor ≡ true) × (d.column ≡ p.0) × (d.row ≡ p.1)

-- told the bytes, the terminal is between sequences again, and shows what meets a law
pub record Becomes (bytes : List ℕ) (d : Display) (After : Display → Type 0) : Type 0 where
  pub after : Display
  pub is : told (ground d) bytes ≡ ground after
  pub law : After after

-- the cursor stands at a place, and the colours are those of an attribute, where these are known
pub record Knows (colours : Colours) (place : Option (ℕ × ℕ)) (attr : Option ℕ) (d : Display) : Type 0 where
  pub stands : IfSome place (λ p. (d.column ≡ p.0) × (d.row ≡ p.1))
  pub writes : IfSome attr (λ a. (d.front ≡ front_of colours a) × (d.back ≡ back_of colours a))

-- a cell is shown at a place, with the cursor behind it
abbrev pub drawn : Colours → (column row : ℕ) → Glyph → Display → Display
drawn colours column row g d = record d {
  column = column + 1;
  row = row;
  front = front_of colours g.attr;
  back = back_of colours g.attr;
  cells = with_tile d.cells column row (tile_of colours g);
}

-- the cell has a character of one column, and an attribute
pub record IsPrintable (g : Glyph) : Type 0 where
  pub narrow : IsNarrow g.ch
  pub scalar : g.ch < 1114112
  pub attr : g.attr < 256
