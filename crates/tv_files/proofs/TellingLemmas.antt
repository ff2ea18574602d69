-- What was offered to a stream that was flushed well.
use Rattle.std.proofs.Common.{◌≡◌, ℕ, List, inl, inr, ◌∙◌, sym, arith}
use Rattle.tv_io.specs.Writer.{HasRisen, Seen, Takes}
use Rattle.tv_program.specs.Report.{IsOffered}
use Rattle.tv_files.specs.Streams.{IsWritten}

HasRisen-zero : (m n : ℕ) → n ≡ 0 → HasRisen m n → ⊥
HasRisen-zero m n none (inl more) = omega (arith, none, more)
HasRisen-zero m n none (inr top) = omega (arith, none, top)

-- all of it was taken
pub IsOffered-written : (old mid new : Seen) (text : List ℕ) → IsOffered old mid text → IsWritten mid new → Takes old mid text
IsOffered-written old mid new text (inl taken) written = taken
IsOffered-written old mid new text (inr cut) written = absurd (HasRisen-zero old.failures mid.failures (sym written.count ∙ written.none) cut.count)
