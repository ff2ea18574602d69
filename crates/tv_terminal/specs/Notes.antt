-- A note in a row below a screen.
use Rattle.std.specs.Prelude.{◌≡◌, ◌≢◌, ◌<◌, ◌++◌, ℕ, List, ◌∷◌, codes, encode_utf8, flat_map, length, slice_index_or, Option}
use Rattle.tv_cells.specs.Glyph.{IsNarrow, shown_char}
use Rattle.tv_io.specs.Pen.{Puts}
use Rattle.tv_io.specs.Writer.{Seen}
use Rattle.tv_io.specs.declared.pen.Pen.{Pen}
use Rattle.tv_terminal.specs.Displays.{Becomes, Stays}
use Rattle.tv_terminal.specs.Terminal.{Display, Plain, Tile}
use Rattle.tv_terminal.specs.Writing.{Covers, IsRight}
use Rattle.tv_terminal.specs.Written.{going}
use Rattle.tv_terminal.specs.declared.painter.Painter.{Painter}

-- a character of one column
pub record IsShowable (ch : ℕ) : Type 0 where
  pub narrow : IsNarrow ch
  pub scalar : ch < 1114112

-- a text as a screen shows it
abbrev pub shown_bytes : List ℕ → List ℕ
shown_bytes text = flat_map (λ ch. encode_utf8 (shown_char ch)) text

-- the colours become plain, and the rest of the cursor's row is cleared
abbrev pub plain_bytes : List ℕ
plain_bytes = 27 ∷ codes "[0m"

abbrev pub rest_cleared_bytes : List ℕ
rest_cleared_bytes = 27 ∷ codes "[K"

-- to the first column of the row, in plain colours the text, and the rest of the row cleared
abbrev pub note_bytes : (place : Option (ℕ × ℕ)) (row : ℕ) → List ℕ → List ℕ
note_bytes place row text =
    going place 0 row ++ (plain_bytes ++ (shown_bytes text ++ rest_cleared_bytes))

-- what a column of the row shows: a character of the text, or a space behind it
abbrev pub note_tile : List ℕ → (column : ℕ) → Tile
note_tile text column = record { ch = shown_char (slice_index_or text column 32); front = Plain; back = Plain }

-- the row shows the text, and no other has changed
pub record HasNote (row : ℕ) (text : List ℕ) (d e : Display) : Type 0 where
  pub inside : (column : ℕ) → e.cells column row ≡ note_tile text column
  pub outside : (column other : ℕ) → other ≢ row → e.cells column other ≡ d.cells column other

-- what a terminal shows after a note was written
pub record Noted (row : ℕ) (text : List ℕ) (new : Painter) (d e : Display) : Type 0 where
  pub note : HasNote row text d e
  pub right : IsRight new e
  pub stays : Stays d e

-- a painter wrote it, and shows the same screen
pub record Notes {W : Type 0} (seen : W → Seen) (row : ℕ) (text : List ℕ) (old new : Painter)
    (before after : Pen W) : Type 0 where
  pub known : new.is_known ≡ old.is_known
  pub window : new.window ≡ old.window
  pub colours : new.colours ≡ old.colours
  pub shown : new.shown ≡ old.shown
  pub puts : Puts seen before after (note_bytes old.place row text)
  pub tells : (d : Display) → Covers old.window old.shown → row < d.rows → length text < d.columns → IsRight old d
      → Becomes (note_bytes old.place row text) d (Noted row text new d)
