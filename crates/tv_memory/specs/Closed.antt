-- What is known of an album and an input that are closed.
use Rattle.std.specs.Prelude.{ℕ, Bool, [], ◌∷◌, Option, Some, if◌then◌else◌}
use Rattle.tv_play.specs.Pieces.{Heard}
use Rattle.tv_program.specs.Albums.{Hung}
use Rattle.tv_terminal.specs.Decoding.Symbol.{Pause}

-- an album that took no picture, and was given so many
abbrev pub album_of : (failures : ℕ) → Option Hung
album_of failures = Some (record { pictures = []; failures = failures })

-- an input of which only the pause at its end is left, or nothing
abbrev pub input_of : (is_waiting : Bool) → (failures : ℕ) → (is_ended : Bool) → Heard
input_of is_waiting failures is_ended = record {
  left = Some (if is_waiting then Pause ∷ [] else []);
  failures = failures;
  is_ended = is_ended;
}
