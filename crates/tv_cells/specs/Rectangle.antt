-- Points and rectangles. A rectangle is the set of its points.
use Rattle.std.specs.Prelude.{ℕ, ℤ, pos, neg_ℤ, ◌+ℤ◌, ◌≤ℤ◌, ◌<ℤ◌}
use Rattle.std.specs.Int.{int_max, int_min}
use Rattle.tv_cells.specs.declared.rect.Point.{Point}
use Rattle.tv_cells.specs.declared.rect.Rect.{Rect}

-- the points from one corner on and before the other, in both coordinates
pub record IsIn (r : Rect) (x y : ℤ) : Type 0 where
  pub after_left : r.a.x ≤ℤ x
  pub before_right : x <ℤ r.b.x
  pub after_top : r.a.y ≤ℤ y
  pub before_bottom : y <ℤ r.b.y

-- no point lies in it
abbrev pub IsEmpty : Rect → Type 0
IsEmpty r = (x y : ℤ) → IsIn r x y → ⊥

-- from the origin on, of a width and a height
abbrev pub sized : ℕ → ℕ → Rect
sized width height = record {
  a = record { x = pos 0; y = pos 0 };
  b = record { x = pos width; y = pos height };
}

-- a coordinate lies at most so far from 0
pub record LiesWithin (most : ℕ) (z : ℤ) : Type 0 where
  pub low : neg_ℤ (pos most) ≤ℤ z
  pub high : z ≤ℤ pos most

-- a coordinate that sums of coordinates may be made of
abbrev pub IsNear : ℤ → Type 0
IsNear z = LiesWithin 100000 z

-- a point, and a rectangle, of such coordinates
pub record IsPointNear (p : Point) : Type 0 where
  pub x : IsNear p.x
  pub y : IsNear p.y

pub record IsRectNear (r : Rect) : Type 0 where
  pub a : IsPointNear r.a
  pub b : IsPointNear r.b

-- a point, and a rectangle, moved by the coordinates of another point
abbrev pub shifted_point : Point → Point → Point
shifted_point p by = record { x = p.x +ℤ by.x; y = p.y +ℤ by.y }

abbrev pub shifted : Rect → Point → Rect
shifted r by = record { a = shifted_point r.a by; b = shifted_point r.b by }

-- the corners of what two rectangles have in common
abbrev pub cut : Rect → Rect → Rect
cut r s = record {
  a = record { x = int_max r.a.x s.a.x; y = int_max r.a.y s.a.y };
  b = record { x = int_min r.b.x s.b.x; y = int_min r.b.y s.b.y };
}
