-- Which cell a screen shows at a place, from the layers over it.
use Rattle.std.specs.Prelude.{◌≡◌, ℕ, ℤ, pos, Bool, not, ◌&&◌, List, [], ◌∷◌, ◌++◌, if◌then◌else◌}
use Rattle.std.specs.Int.Signed.{le_z, lt_z}
use Rattle.tv_cells.specs.Glyph.{Glyph, blank, shaded}
use Rattle.tv_cells.specs.Picture.{Picture, IsAlike, IsOn, cell_at}
use Rattle.tv_cells.specs.Canvas.{face_at, aside}
use Rattle.tv_cells.specs.Rectangle.{shifted, sized}
use Rattle.tv_cells.specs.declared.rect.Rect.{Rect}
use Rattle.tv_cells.specs.declared.canvas.Canvas.{Canvas}

-- a face of a size at the origin of a canvas, or the shadow of a rectangle that is seen from the origin
pub data Layer : Type 0 where
  Painted : (c : Canvas) (width height : ℕ) (face : ℕ → ℕ → Glyph) → Layer
  Shadow : (c : Canvas) (r : Rect) → Layer

-- the tests of `IsIn` and of `Covers`
abbrev pub is_in : Rect → ℤ → ℤ → Bool
is_in r x y = (le_z r.a.x x && lt_z x r.b.x) && (le_z r.a.y y && lt_z y r.b.y)

abbrev pub covers : Canvas → Rect → ℕ → ℕ → Bool
covers c r column row =
    is_in c.clip (pos column) (pos row) && is_in (shifted r c.origin) (pos column) (pos row)

-- what a layer shows over a cell: a face hides it, and a shadow keeps its character
abbrev pub over : Layer → ℕ → ℕ → Glyph → Glyph
over (Painted c width height face) column row under =
    if covers c (sized width height) column row then face_at c face column row else under
over (Shadow c r) column row under =
    if covers c (shifted r aside) column row && not (is_in (shifted r c.origin) (pos column) (pos row))
    then shaded under
    else under

-- what layers, from the top, show over a cell
abbrev pub cell_over : List Layer → ℕ → ℕ → Glyph → Glyph
cell_over [] column row under = under
cell_over (layer ∷ layers) column row under = over layer column row (cell_over layers column row under)

-- both show the same, whatever is below
pub record ShowsSame (old new : List Layer) : Type 0 where
  pub each : (column row : ℕ) (under : Glyph)
      → cell_over old column row under ≡ cell_over new column row under

-- the cell of layers from the top, above a blank screen
abbrev pub cell_of : List Layer → ℕ → ℕ → Glyph
cell_of [] column row = blank
cell_of (layer ∷ layers) column row = over layer column row (cell_of layers column row)

-- each cell of the picture is that of the layers
pub record Shows (layers : List Layer) (p : Picture) : Type 0 where
  pub each : (column row : ℕ) → IsOn p column row → cell_at p column row ≡ cell_of layers column row

-- the new picture shows these layers over whatever the old one shows, and no more
pub record Lays (layers : List Layer) (old new : Picture) : Type 0 where
  pub size : IsAlike old new
  pub shows : (below : List Layer) → Shows below old → Shows (layers ++ below) new
