-- What a line of a script says.
use Rattle.std.specs.Prelude.{ℕ, List}
use Rattle.tv_cells.specs.declared.rect.Point.{Point}
use Rattle.tv_event.specs.declared.event.Key as keys

pub data Line : Type 0 where
  -- a key
  Key : keys.Key → Line
  -- a key for each character of a text
  Typed : List ℕ → Line
  -- the mouse button goes down at a point, the mouse moves to one, and the button goes up
  Down : Point → Line
  Move : Point → Line
  Up : Point → Line
  -- the characters of the screen, and its attributes
  Shot : Line
  Colors : Line
