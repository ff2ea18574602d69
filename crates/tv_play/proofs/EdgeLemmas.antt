-- What is brought to the screen is on it.
use Rattle.std.proofs.Common.{◌≡◌, ℤ, pos, negsuc, ◌≤ℤ◌, ◌<ℤ◌, ◌-◌, int_le, int_lt, Bool, true, false, cond, refl, arith}
use Rattle.std.proofs.lemmas.Int.{ints}
use Rattle.tv_cells.specs.declared.rect.Point.{Point}
use Rattle.tv_event.specs.declared.event.Event.{Event}
use Rattle.tv_event.specs.declared.event.Event.TheVariants as events
use Rattle.tv_model.specs.Description.Numbers.{natural}
use Rattle.tv_model.specs.declared.desc.Desc.{Desc}
use Rattle.tv_play.specs.Edge.{brought, nearest, nearest_point, top_left}
use Rattle.tv_script.specs.Lines.{is_point_within}
use Rattle.tv_terminal.specs.Points.{HasPlaces, IsMousePlace, IsPlaced}
use Rattle.tv_terminal.specs.Sent.{IsSent}

-- what a test of whole numbers says
pub lt-says : (x y : ℤ) → int_lt x y ≡ true → x <ℤ y
lt-says x y e = grind (arith, ints)

pub lt-holds : (x y : ℤ) → x <ℤ y → int_lt x y ≡ true
lt-holds x y h = grind (arith, ints)

pub le-holds : (x y : ℤ) → x ≤ℤ y → int_le x y ≡ true
le-holds x y h = grind (arith, ints)

not-lt : (x y : ℤ) → int_lt x y ≡ false → y ≤ℤ x
not-lt x y e = grind (arith, ints)

-- behind the last place there are fewer places than that
place-by : (size at : ℤ) (b : Bool) → int_lt at size ≡ b → IsMousePlace at → IsMousePlace (cond b at (pos (natural size - 1)))
place-by size at true e is = is
place-by (negsuc n) at false e is = record { low = omega (arith, ints); high = omega (arith, ints) }
place-by (pos n) at false e is = record { low = omega (arith, ints); high = omega (arith, ints, not-lt at (pos n) e, is.high) }

pub nearest-placed : (size at : ℤ) → IsMousePlace at → IsMousePlace (nearest size at)
nearest-placed size at is = place-by size at (int_lt at size) refl is

nearest-point-placed : (d : Desc) (p : Point) → HasPlaces p → HasPlaces (nearest_point d p)
nearest-point-placed d p h = record { x = nearest-placed d.width p.x h.x; y = nearest-placed d.height p.y h.y }

pressed-by : (b : Bool) (p : Point) → HasPlaces p → HasPlaces (cond b p top_left)
pressed-by true p h = h
pressed-by false p h = record { x = record { low = omega (arith, ints); high = omega (arith, ints) }; y = record { low = omega (arith, ints); high = omega (arith, ints) } }

-- the mouse is still where it can be
pub brought-placed : (d : Desc) (e : Event) → IsSent e → IsPlaced (brought d e)
brought-placed d (events.Key key) sent = tt
brought-placed d (events.Down p) sent = pressed-by (is_point_within d.width d.height p) p sent
brought-placed d (events.Move p) sent = nearest-point-placed d p sent
brought-placed d (events.Up p) sent = nearest-point-placed d p sent
brought-placed d (events.Command command) sent = absurd sent
brought-placed d (events.Broadcast command) sent = absurd sent
