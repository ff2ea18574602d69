-- A text that is read piece by piece.
use Rattle.std.proofs.Common.{◌≡◌, ◌<◌, ◌≤◌, ℕ, ◌+◌, false, List, [], length, take, Option, Some, None, IfSome, refl, sym, subst, ◌∙◌, append-nil, arith}
use Rattle.std.proofs.lemmas.List.{take_all, take-append-le}
use Rattle.std.specs.Io.KnownBytes.{Consumes, IsAtEnd}
use Rattle.tv_io.specs.Reader.{Given, Gives, HasGiven}
use Rattle.tv_io.proofs.ReaderLemmas.{HasGiven-then}
use Rattle.tv_io.specs.Reading.{IsRead}

all-taken : (l n : Option (List ℕ)) (text : List ℕ) (m : ℕ) → length text ≤ m → Consumes l n text → IsAtEnd n → IfSome l (λ left. text ≡ take m left)
all-taken None n text m few took end = tt
all-taken (Some l) None text m few took end = absurd took
all-taken (Some l) (Some n) text m few took end = rw (took, end, append-nil text) (sym (take_all m text few))

front-taken : (l n : Option (List ℕ)) (text : List ℕ) (m : ℕ) → m ≡ length text → Consumes l n text → IfSome l (λ left. text ≡ take m left)
front-taken None n text m full took = tt
front-taken (Some l) None text m full took = absurd took
front-taken (Some l) (Some n) text m full took =
    rw took (sym (take-append-le m text n (omega (arith, full)) ∙ take_all m text (omega (arith, full))))

module _ (most : ℕ) (old mid new : Given) (text : List ℕ) (gave : HasGiven old mid text) (few : length text ≤ most) where
  -- the reader came to its end
  pub IsRead-end : Gives mid new [] → IsRead most old new text
  IsRead-end last =
      let all = subst (λ bytes. HasGiven old new bytes) (append-nil text) (HasGiven-then text [] gave last.has) in
      record {
        gave = record { gave = all; whole = λ _. (last.ended refl).1 };
        few = omega (arith, few);
        first = all-taken old.left new.left text (most + 1) (omega (arith, few)) all.took (last.ended refl).1;
        ended = λ _. (last.ended refl).0;
      }

-- as many bytes were read as may be
pub IsRead-full : (most : ℕ) (old new : Given) (text : List ℕ) → HasGiven old new text → (0 < length text → new.is_ended ≡ false) → length text ≡ most + 1 → IsRead most old new text
IsRead-full most old new text gave going full = record {
  gave = record { gave = gave; whole = λ ended. let goes = going (omega (arith, full)) in absurd cc };
  few = omega (arith, full);
  first = front-taken old.left new.left text (most + 1) (sym full) gave.took;
  ended = λ short. absurd (omega (arith, full, short));
}
