-- What a flush leaves, and a row of texts.
use Rattle.std.specs.Prelude.{◌≡◌, ℕ, ◌⊎◌, List, [], ◌∷◌, Result, Ok, Err}
use Rattle.std.specs.Io.KnownBytes.{Keeps}
use Rattle.tv_io.specs.Writer.{Fails, Seen}
use Rattle.tv_program.specs.Report.{IsOffered}

-- all that the stream took is written, and no call of it has ever failed
pub record IsWritten (old new : Seen) : Type 0 where
  pub bytes : Keeps old.taken new.taken
  pub count : new.failures ≡ old.failures
  pub none : new.failures ≡ 0
  pub rest : new.kept ≡ []

-- by the flush's answer
abbrev pub Flushes : {T E : Type 0} → (old new : Seen) → Result T E → Type 0
Flushes old new (Ok _) = IsWritten old new
Flushes old new (Err _) = Fails old new

-- the texts were offered one after another, and then the stream was flushed
abbrev pub Offers : (old new : Seen) → List (List ℕ) → Type 0
Offers old new [] = IsWritten old new ⊎ Fails old new
Offers old new (text ∷ texts) = (mid : Seen) × IsOffered old mid text × Offers mid new texts
