-- What is written, and what a terminal makes of it.
use Rattle.std.specs.Prelude.{◌≡◌, ◌≤◌, ℕ, true, false, List, Option, Some, None, IfSome}
use Rattle.tv_cells.specs.Picture.{Picture, IsAlike, IsOn, Changes, cell_at}
use Rattle.tv_io.specs.Pen.{Puts, PutsPart}
use Rattle.tv_io.specs.Writer.{Seen}
use Rattle.tv_io.specs.declared.pen.Pen.{Pen}
use Rattle.tv_terminal.specs.Displays.{Displays, HasCursor, HasSpace, Knows, ShowsIn, Stays, Becomes}
use Rattle.tv_terminal.specs.Terminal.{Covered, Display, Plain, Tile, kept_of}
use Rattle.tv_terminal.specs.declared.action.Size.{Size}
use Rattle.tv_terminal.specs.declared.hand.Hand.{Hand}
use Rattle.tv_terminal.specs.declared.painter.Painter.{Painter}

-- what a painter takes the terminal to show is what it shows
abbrev pub IsShown : Painter → Display → Type 0
IsShown painter d = painter.is_known ≡ true → Displays painter.colours painter.shown d

-- and so is what it takes its cursor and its colours to be
pub record IsRight (painter : Painter) (d : Display) : Type 0 where
  pub shows : IsShown painter d
  pub knows : Knows painter.colours painter.place painter.attr d
  pub cursor : IfSome painter.has_cursor (λ is_on. d.has_cursor ≡ is_on)

-- the whole of such a picture lies in the window
pub record Covers (window : Size) (p : Picture) : Type 0 where
  pub across : p.width ≤ window.columns
  pub down : p.height ≤ window.rows

-- ---- the cells of a region

-- what a terminal shows after the cells of a region of a screen were written
pub record Drawn (Region : ℕ → ℕ → Type 0) (screen : Picture) (new : Painter) (d e : Display) : Type 0 where
  pub shows : ShowsIn new.colours Region screen d e
  pub right : IsShown new e
  pub stays : Stays d e

-- a painter took them over, and wrote what brings a terminal there
pub record Draws {W : Type 0} (seen : W → Seen) (Region : ℕ → ℕ → Type 0) (screen : Picture)
    (old new : Painter) (hand after : Hand) (before later : Pen W) : Type 0 where
  pub known : new.is_known ≡ old.is_known
  pub colours : new.colours ≡ old.colours
  pub window : new.window ≡ old.window
  pub same : after.colours ≡ hand.colours
  pub changes : Changes Region (λ column row _. cell_at screen column row) old.shown new.shown
  pub text : List ℕ
  pub puts : PutsPart seen before later hand.waiting.items text after.waiting.items
  pub tells : (d : Display) → Covers old.window old.shown → hand.colours ≡ old.colours → Knows old.colours hand.place hand.attr d
      → HasSpace old.shown d → IsShown old d → Becomes text d
      (λ e. Knows new.colours after.place after.attr e × (e.has_cursor ≡ d.has_cursor) × Drawn Region screen new d e)

-- ---- a screen

-- what a terminal shows after a region of a screen was painted
pub record Painted (Region : ℕ → ℕ → Type 0) (screen : Picture) (cursor : Option (ℕ × ℕ)) (new : Painter)
    (d e : Display) : Type 0 where
  pub drawn : Drawn Region screen new d e
  pub right : IsRight new e
  pub points : HasCursor cursor e

-- a painter took its cells over, and wrote what brings a terminal there
pub record Paints {W : Type 0} (seen : W → Seen) (Region : ℕ → ℕ → Type 0) (screen : Picture)
    (cursor : Option (ℕ × ℕ)) (old new : Painter) (before after : Pen W) : Type 0 where
  pub known : new.is_known ≡ old.is_known
  pub colours : new.colours ≡ old.colours
  pub window : new.window ≡ old.window
  pub changes : Changes Region (λ column row _. cell_at screen column row) old.shown new.shown
  pub bytes : List ℕ
  pub puts : Puts seen before after bytes
  pub tells : (d : Display) → Covers old.window old.shown → HasSpace old.shown d → IsRight old d
      → Becomes bytes d (Painted Region screen cursor new d)

-- ---- the begin and the end

-- a place with nothing on it, in plain colours
abbrev pub bare : Tile
bare = record { ch = 32; front = Plain; back = Plain }

-- the alternate screen shows the whole screen, with nothing beside it, the mouse is on, Meta and Alt are sent as
-- ESC, and what is pasted in brackets; the normal screen is kept
pub record Begun (screen : Picture) (cursor : Option (ℕ × ℕ)) (new : Painter) (d e : Display) : Type 0 where
  pub shows : Displays new.colours screen e
  pub beside : (column row : ℕ) → (IsOn screen column row → ⊥) → e.cells column row ≡ bare
  pub right : IsRight new e
  pub points : HasCursor cursor e
  pub columns : e.columns ≡ d.columns
  pub rows : e.rows ≡ d.rows
  pub mouse : e.has_mouse ≡ true
  pub reports : e.has_long_reports ≡ true
  pub meta : e.has_meta_escapes ≡ true
  pub alt : e.has_alt_escapes ≡ true
  pub pastes : e.has_paste_brackets ≡ true
  pub bells : e.bells ≡ d.bells
  pub covered : e.covered ≡ Some (kept_of d.covered d)
  pub lost : e.is_lost ≡ d.is_lost

pub record BeginsScreen {W : Type 0} (seen : W → Seen) (screen : Picture) (cursor : Option (ℕ × ℕ)) (frame : Size)
    (old new : Painter) (before after : Pen W) : Type 0 where
  pub known : new.is_known ≡ true
  pub colours : new.colours ≡ old.colours
  pub window : new.window ≡ frame
  pub size : IsAlike old.shown new.shown
  pub taken : (column row : ℕ) → IsOn screen column row
      → cell_at new.shown column row ≡ cell_at screen column row
  pub bytes : List ℕ
  pub puts : Puts seen before after bytes
  pub tells : (d : Display) → Covers frame screen → HasSpace screen d → Becomes bytes d (Begun screen cursor new d)

-- the normal screen as it was kept, with the cursor where it stood, plain colours, no mouse, no ESC for Meta or
-- Alt, and no brackets
abbrev pub restored : Covered → Display → Display
restored c d = record d {
  cells = c.cells;
  column = c.column;
  row = c.row;
  covered = None;
  front = Plain;
  back = Plain;
  has_cursor = true;
  has_mouse = false;
  has_long_reports = false;
  has_meta_escapes = false;
  has_alt_escapes = false;
  has_paste_brackets = false;
}
