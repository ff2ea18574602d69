-- Points that are to be painted again, in rectangles that may overlap.
use Rattle.std.specs.Prelude.{◌≡◌, ◌<ℤ◌, ◌+ℤ◌, ℤ, Bool, true, ◌&&◌, List, [], ◌∷◌}
use Rattle.std.specs.Int.{int_max, int_min}
use Rattle.std.specs.Int.Signed.{le_z}
use Rattle.std.specs.List.{list_any}
use Rattle.tv_cells.specs.Canvas.{aside}
use Rattle.tv_cells.specs.Layers.{is_in}
use Rattle.tv_cells.specs.Rectangle.{IsIn, shifted}
use Rattle.tv_cells.specs.declared.rect.Point.{Point}
use Rattle.tv_cells.specs.declared.rect.Rect.{Rect}

-- ---- rectangles

-- it has a point
pub record IsSolid (r : Rect) : Type 0 where
  pub across : r.a.x <ℤ r.b.x
  pub down : r.a.y <ℤ r.b.y

-- the points of one are points of the other
pub record IsPart (r s : Rect) : Type 0 where
  pub each : (x y : ℤ) → IsIn r x y → IsIn s x y

-- the same by corners
abbrev pub is_part : Rect → Rect → Bool
is_part r s = (le_z s.a.x r.a.x && le_z r.b.x s.b.x) && (le_z s.a.y r.a.y && le_z r.b.y s.b.y)

-- the corners round both
abbrev pub hull : Rect → Rect → Rect
hull r s = record {
  a = record { x = int_min r.a.x s.a.x; y = int_min r.a.y s.a.y };
  b = record { x = int_max r.b.x s.b.x; y = int_max r.b.y s.b.y };
}

-- a coordinate that is seen from the first edge of a frame, or the nearer edge where it lies outside
abbrev pub seen_along : ℤ → ℤ → ℤ → ℤ
seen_along from at to = int_min (int_max (from +ℤ at) from) to

-- what of a rectangle that is seen from the corner of a frame lies in the frame
abbrev pub seen_within : Rect → Rect → Rect
seen_within r frame = record {
  a = record { x = seen_along frame.a.x r.a.x frame.b.x; y = seen_along frame.a.y r.a.y frame.b.y };
  b = record { x = seen_along frame.a.x r.b.x frame.b.x; y = seen_along frame.a.y r.b.y frame.b.y };
}

-- ---- damage

-- a rectangle of it has the point
abbrev pub has : List Rect → ℤ → ℤ → Bool
has rects x y = list_any (λ r. is_in r x y) rects

-- a rectangle with each of its points
pub record Holds (r : Rect) (rects : List Rect) : Type 0 where
  pub each : (x y : ℤ) → has rects x y ≡ true → IsIn r x y

-- it has each point of a rectangle
pub record HasAll (r : Rect) (rects : List Rect) : Type 0 where
  pub each : (x y : ℤ) → IsIn r x y → has rects x y ≡ true

-- no point is lost, and none is outside the smallest rectangle that holds the old ones and those of a
-- rectangle
pub record Grows (rect : Rect) (old new : List Rect) : Type 0 where
  pub kept : (x y : ℤ) → has old x y ≡ true → has new x y ≡ true
  pub within : (r : Rect) → Holds r old → IsPart rect r → Holds r new

-- no point is lost, and none is outside the smallest rectangle that holds the old ones and those of others
pub record GrowsIn (rects old new : List Rect) : Type 0 where
  pub kept : (x y : ℤ) → has old x y ≡ true → has new x y ≡ true
  pub within : (r : Rect) → Holds r old → Holds r rects → Holds r new

-- and all of theirs are there
pub record AddsAll (rects old new : List Rect) : Type 0 where
  pub grown : GrowsIn rects old new
  pub added : (x y : ℤ) → has rects x y ≡ true → has new x y ≡ true

-- a rectangle, and where its shadow falls
abbrev pub with_shadow : Rect → List Rect
with_shadow r = r ∷ shifted r aside ∷ []

-- it has what is seen from the corner of a frame, where the frame has the point
pub record HasWithin (frame : Rect) (inner rects : List Rect) : Type 0 where
  pub each : (x y : ℤ) → has inner x y ≡ true → IsIn frame (x +ℤ frame.a.x) (y +ℤ frame.a.y)
      → has rects (x +ℤ frame.a.x) (y +ℤ frame.a.y) ≡ true

-- it has what was there, moved
pub record HasMoved (by : Point) (other rects : List Rect) : Type 0 where
  pub each : (x y : ℤ) → has other x y ≡ true → has rects (x +ℤ by.x) (y +ℤ by.y) ≡ true
