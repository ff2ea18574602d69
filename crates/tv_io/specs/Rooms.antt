-- A text shown in a room.
use Rattle.std.specs.Prelude.{◌≡◌, ℕ, ◌<◌, ◌≤◌, List, ◌++◌, drop, length}

-- the length of the text is told; the text is the front of the room, if it fits, and else the room is as it was
pub record Shows (old new : List ℕ) (used : ℕ) (text : List ℕ) : Type 0 where
  pub count : used ≡ length text
  pub fits : length text ≤ length old → new ≡ text ++ drop (length text) old
  pub spills : length old < length text → new ≡ old
