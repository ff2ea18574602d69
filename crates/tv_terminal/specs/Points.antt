-- Where the mouse can be.
use Rattle.std.specs.Prelude.{ℤ, pos, ◌≤ℤ◌}
use Rattle.tv_cells.specs.declared.rect.Point.{Point}
use Rattle.tv_event.specs.declared.event.Event.{Event as Happening}
use Rattle.tv_event.specs.declared.event.Event.TheVariants.{Down, Up, Move}

-- a column or a row from 0 to 9,999
pub record IsMousePlace (z : ℤ) : Type 0 where
  pub low : pos 0 ≤ℤ z
  pub high : z ≤ℤ pos 9999

pub record HasPlaces (p : Point) : Type 0 where
  pub x : IsMousePlace p.x
  pub y : IsMousePlace p.y

-- the point of an event, if it has one, is such a one
abbrev pub IsPlaced : Happening → Type 0
IsPlaced (Down p) = HasPlaces p
IsPlaced (Up p) = HasPlaces p
IsPlaced (Move p) = HasPlaces p
IsPlaced _ = Unit {0}
