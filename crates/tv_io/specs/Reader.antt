-- What a reader gives.
use Rattle.std.specs.Prelude.{◌≡◌, ◌≢◌, ℕ, Bool, true, false, List, [], Option}
use Rattle.std.specs.Io.KnownBytes.{Appends, Consumes, IsAtEnd, Keeps}
use Rattle.tv_io.specs.Writer.{HasRisen}

-- the bytes that a reader gave and those that it has left, where they are known; the count of its calls that
-- failed; and whether its last call was the end
pub record Given : Type 0 where
  pub given : Option (List ℕ)
  pub left : Option (List ℕ)
  pub failures : ℕ
  pub is_ended : Bool

-- these bytes were given, and no call failed
pub record HasGiven (old new : Given) (bytes : List ℕ) : Type 0 where
  pub gave : Appends old.given new.given bytes
  pub took : Consumes old.left new.left bytes
  pub count : new.failures ≡ old.failures

-- one call gave them; none are the end, where nothing is left, and nothing else is
pub record Gives (old new : Given) (bytes : List ℕ) : Type 0 where
  pub has : HasGiven old new bytes
  pub ended : bytes ≡ [] → (new.is_ended ≡ true) × IsAtEnd new.left
  pub going : bytes ≢ [] → new.is_ended ≡ false

-- a call gave nothing, and failed, which isn't the end
pub record GivesNot (old new : Given) : Type 0 where
  pub gave : Keeps old.given new.given
  pub took : Keeps old.left new.left
  pub count : HasRisen old.failures new.failures
  pub going : new.is_ended ≡ false

-- these bytes were given so far, and no call failed; where the end has come they are all that there was
pub record IsReadSoFar (old new : Given) (bytes : List ℕ) : Type 0 where
  pub gave : HasGiven old new bytes
  pub whole : new.is_ended ≡ true → IsAtEnd new.left
