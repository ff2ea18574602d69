-- What a read of a terminal that gave no byte is.
use Rattle.std.specs.Duration.{as_nanos}
use Rattle.std.specs.Prelude.{◌≡◌, ◌<◌, ◌≤◌, ◌/◌, ℕ, ◌+◌, Bool, List, [], ◌∷◌, ◌++◌, length, map, min, nat_lt, take}
use Rattle.std.specs.Prelude.{Option, Some, None, if◌then◌else◌}
use Rattle.tv_io.specs.Writer.{HasRisen}
use Rattle.tv_files.specs.declared.timed_read.Reading.{Reading}
use Rattle.tv_files.specs.declared.timed_read.Reading.TheVariants as readings
use Rattle.tv_play.specs.Pieces.{Heard}
use Rattle.tv_play.specs.declared.pieces.Piece.{Piece}
use Rattle.tv_play.specs.declared.pieces.Piece.TheVariants.{Bytes, Pause, End}

-- a read that took fewer milliseconds didn't wait for a terminal
abbrev pub shortest_wait : ℕ
shortest_wait = 50

-- so many such reads in a row are the end
abbrev pub reads_at_end : ℕ
reads_at_end = 4

-- how many reads in a row gave no byte and didn't wait, with one that took so many milliseconds. They are
-- counted up to the end
abbrev pub short_after : (waited before : ℕ) → ℕ
short_after waited before = if nat_lt waited shortest_wait then min (before + 1) reads_at_end else 0

-- what the last of so many is
abbrev pub piece_after : (short : ℕ) → Piece
piece_after short = if nat_lt short reads_at_end then Pause else End

-- a byte, or a read without bytes that took so many milliseconds
pub data Moment : Type 0 where
  Came : ℕ → Moment
  Quiet : ℕ → Moment

-- what a read came to, whose bytes stand in a room
abbrev pub moments_in : Reading → List ℕ → List Moment
moments_in (readings.Bytes count) room = map Came (take count room)
moments_in (readings.Nothing waited) room = Quiet (as_nanos waited / 1_000_000) ∷ []

-- there are some bytes, and they lie in the room
abbrev pub FitsReading : Reading → List ℕ → Type 0
FitsReading (readings.Bytes count) room = (0 < count) × (count ≤ length room)
FitsReading (readings.Nothing waited) room = Unit {0}

-- these moments were the next ones, where it is known what was to come
abbrev pub Spends : (old new : Option (List Moment)) → List Moment → Type 0
Spends None new moments = Unit {0}
Spends (Some old) None moments = ⊥
Spends (Some old) (Some new) moments = old ≡ moments ++ new

-- what was heard, where nothing is known of what is left
abbrev pub heard_by : (failures : ℕ) (is_ended : Bool) → Heard
heard_by failures is_ended = record { left = None; failures = failures; is_ended = is_ended }

-- a read without bytes, behind so many short ones in a row: how many there are with it tells what it was
pub record IsQuiet (old new : Option (List Moment)) (before after : ℕ) (piece : Piece) : Type 0 where
  pub waited : ℕ
  pub spent : Spends old new (Quiet waited ∷ [])
  pub short : after ≡ short_after waited before
  pub is : piece ≡ piece_after after

-- one read was heard: all its bytes, and then no read in a row was short; or none came; or the reader failed
abbrev pub HearsRead : (old new : Option (List Moment)) (failed failed_after before after : ℕ) → Option Piece → List ℕ → Type 0
HearsRead old new failed failed_after before after (Some (Bytes count)) room =
    Spends old new (map Came (take count room)) × (after ≡ 0)
HearsRead old new failed failed_after before after (Some Pause) room = IsQuiet old new before after Pause
HearsRead old new failed failed_after before after (Some End) room = IsQuiet old new before after End
HearsRead old new failed failed_after before after None room =
    Spends old new [] × HasRisen failed failed_after × (after ≡ before)
