-- What a stream in memory gathered, and a text shown in a room.
use Rattle.std.specs.Prelude.{◌≡◌, ℕ, List, [], Some}
use Rattle.tv_io.specs.Rooms.{Shows}
use Rattle.tv_io.specs.Writer.{Seen}

-- a stream that gathered a text, which it doesn't keep back
abbrev pub gathered : (text : List ℕ) → (failures : ℕ) → Seen
gathered text failures = record { taken = Some text; kept = []; failures = failures }

-- what a stream gathered is shown in a room
pub record IsShown (stream : Seen) (old new : List ℕ) (used : ℕ) : Type 0 where
  pub text : List ℕ
  pub failures : ℕ
  pub is : stream ≡ gathered text failures
  pub shows : Shows old new used text
