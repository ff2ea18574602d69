-- Parts of a screen that are painted again.
use Rattle.std.specs.Prelude.{◌≡◌, ℕ, pos, Bool, false, List}
use Rattle.tv_cells.specs.Glyph.{Glyph}
use Rattle.tv_cells.specs.Picture.{Picture, IsOn, cell_at}
use Rattle.tv_cells.specs.Layers.{Layer, Painted, Shadow, cell_over}
use Rattle.tv_cells.specs.Rectangle.{cut}
use Rattle.tv_cells.specs.Damage.{has}
use Rattle.tv_cells.specs.declared.rect.Rect.{Rect}
use Rattle.tv_cells.specs.declared.canvas.Canvas.{Canvas}

-- ---- layers

-- nothing that is below them shows on a picture of this size
pub record Hides (layers : List Layer) (p : Picture) : Type 0 where
  pub each : (column row : ℕ) → IsOn p column row → (under other : Glyph)
      → cell_over layers column row under ≡ cell_over layers column row other

-- ---- a rectangle of the screen

-- a canvas, cut by it
abbrev pub within : Rect → Canvas → Canvas
within r c = record { clip = cut r c.clip; origin = c.origin }

-- a layer, cut by it
abbrev pub clipped : Rect → Layer → Layer
clipped r (Painted c width height face) = Painted (within r c) width height face
clipped r (Shadow c q) = Shadow (within r c) q

-- ---- damage

-- it has a cell of the screen
abbrev pub has_cell : List Rect → ℕ → ℕ → Bool
has_cell damage column row = has damage (pos column) (pos row)

-- both show the same in each cell of the screen that the damage lacks
pub record AreAlike (p : Picture) (damage : List Rect) (old new : List Layer) : Type 0 where
  pub each : (column row : ℕ) → IsOn p column row → has_cell damage column row ≡ false → (under : Glyph)
      → cell_over old column row under ≡ cell_over new column row under

-- no cell has changed but those of the damage
pub record KeepsRest (damage : List Rect) (old new : Picture) : Type 0 where
  pub each : (column row : ℕ) → IsOn old column row → has_cell damage column row ≡ false
      → cell_at new column row ≡ cell_at old column row
