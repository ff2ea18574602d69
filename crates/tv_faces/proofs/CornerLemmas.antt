-- The rectangle of a frame is one that views may have.
use Rattle.std.proofs.Common.{◌+ℤ◌, ◌≤ℤ◌, ℤ, arith, pos, neg_ℤ}
use Rattle.std.proofs.lemmas.Int.{ints}
use Rattle.tv_cells.specs.Rectangle.{IsNear, IsRectNear}
use Rattle.tv_cells.specs.declared.rect.Point.{Point}
use Rattle.tv_cells.specs.declared.rect.Rect.{Rect}
use Rattle.tv_faces.specs.Corners.{IsCorner, IsFrameSize}
use Rattle.tv_model.specs.Description.Numbers.{IsBetween}
use Rattle.tv_model.specs.Description.Rectangles.{IsSmall, IsSmallRect, rect}

edge : (z : ℤ) → IsBetween (neg_ℤ (pos 132)) (pos 132) z → IsSmall z
edge z at = record { low = omega (arith, ints, at.0, at.1); high = omega (arith, ints, at.0, at.1) }

other-edge : (z s : ℤ) → IsBetween (neg_ℤ (pos 132)) (pos 132) z → (pos 0) ≤ℤ s → s ≤ℤ pos 132 → IsSmall (z +ℤ s)
other-edge z s at low high = record { low = omega (arith, ints, at.0, at.1, low, high); high = omega (arith, ints, at.0, at.1, low, high) }

pub frame_small : (p : Point) (w h : ℤ) → IsCorner p → IsFrameSize w h → IsSmallRect (rect p.x p.y w h)
frame_small p w h at size = record {
  left = edge p.x at.x;
  top = edge p.y at.y;
  right = other-edge p.x w at.x size.across.0 size.across.1;
  bottom = other-edge p.y h at.y size.down.0 (omega (arith, ints, size.down.1));
}

near : (z : ℤ) → IsSmall z → IsNear z
near z small = record { low = omega (arith, ints, small.low); high = omega (arith, ints, small.high) }

pub small_near : (r : Rect) → IsSmallRect r → IsRectNear r
small_near r small = record {
  a = record { x = near r.a.x small.left; y = near r.a.y small.top };
  b = record { x = near r.b.x small.right; y = near r.b.y small.bottom };
}
