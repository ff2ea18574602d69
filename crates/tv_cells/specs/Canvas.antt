-- Where a canvas draws.
use Rattle.std.specs.Prelude.{◌≤◌, ◌<◌, ◌≡◌, ℕ, ℤ, pos, ◌+ℤ◌, ◌≤ℤ◌, ◌<ℤ◌}
use Rattle.std.specs.Int.{int_gap}
use Rattle.tv_cells.specs.declared.rect.Point.{Point}
use Rattle.tv_cells.specs.declared.rect.Rect.{Rect}
use Rattle.tv_cells.specs.declared.canvas.Area.{Area}
use Rattle.tv_cells.specs.declared.canvas.Canvas.{Canvas}
use Rattle.tv_cells.specs.Glyph.{Glyph}
use Rattle.tv_cells.specs.Rectangle.{IsIn, cut, shifted, shifted_point, sized}

-- a column and a row inside the clip, in a rectangle that is seen from the origin
pub record Covers (c : Canvas) (r : Rect) (column row : ℕ) : Type 0 where
  pub clip : IsIn c.clip (pos column) (pos row)
  pub rect : IsIn (shifted r c.origin) (pos column) (pos row)

-- a place on a line, inside a part of the line, at a distance from the origin
pub record IsAlong (from to origin distance : ℤ) (place : ℕ) : Type 0 where
  pub after : from ≤ℤ pos place
  pub before : pos place <ℤ to
  pub away : pos place ≡ (origin +ℤ distance)

-- a column and a row inside the clip, at a point that is seen from the origin
pub record IsAt (c : Canvas) (x y : ℤ) (column row : ℕ) : Type 0 where
  pub across : IsAlong c.clip.a.x c.clip.b.x c.origin.x x column
  pub down : IsAlong c.clip.a.y c.clip.b.y c.origin.y y row

-- the whole of a screen of this size, with the origin in its corner
abbrev pub whole : ℕ → ℕ → Canvas
whole width height = record { clip = sized width height; origin = record { x = pos 0; y = pos 0 } }

-- the clip cut by a rectangle that is seen from the origin, and the origin moved to its corner
abbrev pub sub : Canvas → Rect → Canvas
sub c r = record { clip = cut c.clip (shifted r c.origin); origin = shifted_point r.a c.origin }

-- a column and a row of an area
pub record IsInArea (area : Area) (column row : ℕ) : Type 0 where
  pub left : area.left ≤ column
  pub right : column < area.right
  pub top : area.top ≤ row
  pub bottom : row < area.bottom

-- two columns to the right and one row down, where a shadow lies
abbrev pub aside : Point
aside = record { x = pos 2; y = pos 1 }

-- the shadow of a rectangle: the moved rectangle without the rectangle itself
pub record IsShadow (c : Canvas) (r : Rect) (column row : ℕ) : Type 0 where
  pub moved : Covers c (shifted r aside) column row
  pub free : IsIn (shifted r c.origin) (pos column) (pos row) → ⊥

-- what a face shows in a column and a row of the screen, if its corner lies at the origin
abbrev pub face_at : Canvas → (ℕ → ℕ → Glyph) → ℕ → ℕ → Glyph
face_at c face column row = face (int_gap c.origin.x (pos column)) (int_gap c.origin.y (pos row))
