-- Events as the screen gives them, and those that no dialog is handed.
use Rattle.std.specs.Prelude.{ℕ, Bool, false, ◌&&◌, nat_le}
use Rattle.tv_cells.specs.declared.rect.Point.{Point}
use Rattle.tv_event.specs.declared.event.Event.{Event}
use Rattle.tv_event.specs.declared.event.Event.TheVariants as events
use Rattle.tv_event.specs.declared.event.Key.{Key}
use Rattle.tv_event.specs.declared.event.Key.TheVariants as keys
use Rattle.tv_cells.specs.Rectangle.{LiesWithin}

-- a point within 10,000 columns and rows of the first cell of the screen
pub record IsPointGiven (p : Point) : Type 0 where
  pub x : LiesWithin 10000 p.x
  pub y : LiesWithin 10000 p.y

-- an event has such a point, or none
abbrev pub HasPointGiven : Event → Type 0
HasPointGiven (events.Down p) = IsPointGiven p
HasPointGiven (events.Up p) = IsPointGiven p
HasPointGiven (events.Move p) = IsPointGiven p
HasPointGiven (events.Key k) = Unit {0}
HasPointGiven (events.Command c) = Unit {0}
HasPointGiven (events.Broadcast c) = Unit {0}

-- a letter in lower case
abbrev pub is_small_letter : ℕ → Bool
is_small_letter ch = nat_le 97 ch && nat_le ch 122

-- Alt with such a letter, which no view marks: letters are marked in upper case
abbrev pub is_small_alt : Key → Bool
is_small_alt (keys.Alt letter) = is_small_letter letter
is_small_alt _ = false

-- an event with which no dialog does anything
abbrev pub is_dropped : Event → Bool
is_dropped (events.Key k) = is_small_alt k
is_dropped _ = false
