-- What a script leaves, and what a failed writer leaves of one.
use Rattle.std.specs.Prelude.{◌≡◌, ℕ, ◌+◌, ◌≤◌, ◌≤ℤ◌, pos, List, ◌++◌, length, take}
use Rattle.tv_cells.specs.Layers.{Shows}
use Rattle.tv_cells.specs.Picture.{Picture}
use Rattle.tv_model.specs.declared.desc.Desc.{Desc}
use Rattle.tv_machine.specs.declared.script.Item.{Item}
use Rattle.tv_machine.specs.Screen.Layers.{layers_of}
use Rattle.tv_machine.specs.Output.{output, after}
use Rattle.tv_machine.specs.Run.{Session}
use Rattle.tv_model.specs.Description.Numbers.{natural}
use Rattle.tv_io.specs.Writer.{Seen, Cuts}

-- a description whose screen is no larger than the largest, one of 132 columns and 60 rows
pub record FitsLargestScreen (d : Desc) : Type 0 where
  pub columns : d.width ≤ℤ pos 132
  pub rows : d.height ≤ℤ pos 60

-- the picture is the session's screen
pub record IsScreenOf (s : Session) (p : Picture) : Type 0 where
  pub width : p.width ≡ natural s.desc.width
  pub height : p.height ≡ natural s.desc.height
  pub cells : Shows (layers_of s.desc s.state) p

-- the writer failed after so many items were begun: a proper prefix of their text was taken, with that of
-- those before
-- the last one whole, and what is left stands as the session does after their events
pub record Stops (s : Session) (script : List Item) (begun : ℕ) (old new : Seen)
    (Left : Session → Type 0) : Type 0 where
  pub few : begun ≤ length script
  pub cut : Cuts old new (output s (take begun script))
  pub whole : (k : ℕ) → begun ≡ k + 1 → (more : List ℕ) × (cut.front ≡ output s (take k script) ++ more)
  pub state : Left (after s (take begun script))
