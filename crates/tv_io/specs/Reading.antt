-- What reading a text comes to that may have so many bytes.
use Rattle.std.specs.Prelude.{◌≡◌, ◌≤◌, ℕ, ◌+◌, true, List, length, take, IfSome, Result, Ok, Err, Vec}
use Rattle.tv_io.specs.Reader.{Given, GivesNot, HasGiven, IsReadSoFar}
use Rattle.tv_io.specs.declared.read_fault.ReadFault.{ReadFault}
use Rattle.tv_io.specs.declared.read_fault.ReadFault.TheVariants.{NoMemory, Read}

-- the reader gave the text: all that it had left, but no more than one byte past the limit
pub record IsRead (most : ℕ) (old new : Given) (text : List ℕ) : Type 0 where
  pub gave : IsReadSoFar old new text
  pub few : length text ≤ most + 1
  pub first : IfSome old.left (λ left. text ≡ take (most + 1) left)
  pub ended : length text ≤ most → new.is_ended ≡ true

-- the reader gave some bytes, no more than the limit, and then a call of it failed
pub record BreaksOff (most : ℕ) (old new : Given) : Type 0 where
  pub given : List ℕ
  pub few : length given ≤ most
  pub mid : Given
  pub gave : HasGiven old mid given
  pub failed : GivesNot mid new

-- what reading a text comes to
abbrev pub ReadsTo : {A : Type 0} → (most : ℕ) → (old new : Given) → Result (Vec ℕ A) ReadFault → Type 0
ReadsTo most old new (Ok text) = IsRead most old new text.items
ReadsTo most old new (Err Read) = BreaksOff most old new
ReadsTo most old new (Err NoMemory) = Unit {0}
