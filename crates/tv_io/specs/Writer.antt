-- What a writer has taken, and what a call that writes a text leaves.
use Rattle.std.specs.Prelude.{◌≡◌, ℕ, ◌<◌, ◌^◌, ◌+◌, ◌⊎◌, List, [], ◌++◌, length, Option, Result, Ok, Err}
use Rattle.std.specs.Io.KnownBytes.{Appends, Keeps}

-- the bytes that a writer took, where they are known; those of them that it keeps back, so that they haven't
-- come out at its other end; and the count of its calls that failed or took nothing
pub record Seen : Type 0 where
  pub taken : Option (List ℕ)
  pub kept : List ℕ
  pub failures : ℕ

-- the count has risen; at the greatest number it stays, and is taken as risen
abbrev pub HasRisen : ℕ → ℕ → Type 0
HasRisen old new = (old < new) ⊎ (2 ^ 64 ≡ new + 1)

-- the whole text was taken, and no call failed
pub record Takes (old new : Seen) (text : List ℕ) : Type 0 where
  pub bytes : Appends old.taken new.taken text
  pub count : new.failures ≡ old.failures

-- nothing was taken, and a call failed
pub record Fails (old new : Seen) : Type 0 where
  pub bytes : Keeps old.taken new.taken
  pub count : HasRisen old.failures new.failures

-- a call failed before the whole text came out: some of it wasn't taken, or some bytes are kept back. What
-- was taken of it is its front
pub record Cuts (old new : Seen) (text : List ℕ) : Type 0 where
  pub front : List ℕ
  pub rest : List ℕ
  pub parts : text ≡ front ++ rest
  pub proper : 0 < length rest + length new.kept
  pub bytes : Appends old.taken new.taken front
  pub count : HasRisen old.failures new.failures

-- nothing is kept back any more, and no call failed
pub record IsPassedOn (old new : Seen) : Type 0 where
  pub bytes : Keeps old.taken new.taken
  pub count : new.failures ≡ old.failures
  pub none : new.kept ≡ []

-- something is still kept back, and a call failed
pub record IsHeldBack (old new : Seen) : Type 0 where
  pub bytes : Keeps old.taken new.taken
  pub count : HasRisen old.failures new.failures
  pub some : 0 < length new.kept

-- what was taken was passed on, or a call failed at that
abbrev pub PassesOn : {T E : Type 0} → (old new : Seen) → Result T E → Type 0
PassesOn old new (Ok _) = IsPassedOn old new
PassesOn old new (Err _) = IsHeldBack old new
