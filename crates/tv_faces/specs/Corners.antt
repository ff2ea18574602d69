-- Where windows and dialogs may stand, and how large they may be.
use Rattle.std.specs.Prelude.{ℤ, pos, neg_ℤ}
use Rattle.tv_cells.specs.declared.rect.Point.{Point}
use Rattle.tv_model.specs.Description.Numbers.{IsBetween}

-- a corner no farther off than the widest screen is wide
pub record IsCorner (p : Point) : Type 0 where
  pub x : IsBetween (neg_ℤ (pos 132)) (pos 132) p.x
  pub y : IsBetween (neg_ℤ (pos 132)) (pos 132) p.y

-- a width and a height that the largest screen has
pub record IsFrameSize (w h : ℤ) : Type 0 where
  pub across : IsBetween (pos 0) (pos 132) w
  pub down : IsBetween (pos 0) (pos 60) h
