-- The last of a list, and the list with another in its place.
use Rattle.std.specs.Bool.{◌==◌}
use Rattle.std.proofs.Common.{◌≡◌, ◌+◌, ◌≢◌, ℕ, zero, suc, true, false, List, [], ◌∷◌, ◌++◌, length, slice_index_or, slice_set, refl, sym, ap, arith}
use Rattle.std.proofs.lemmas.Bool.Decides.{nat_tests}

-- a list ends with what it has in a place, and so does the list in which that is another
pub record IsLast {T : Type 0} (xs : List T) (x : T) (place : ℕ) : Type 0 where
  pub outer : List T
  pub whole : xs ≡ outer ++ x ∷ []
  pub set : (y : T) → slice_set xs place y ≡ outer ++ y ∷ []

pub last_of : {T : Type 0} (xs : List T) (x d : T) (place : ℕ) → place + 1 ≡ length xs → x ≡ slice_index_or xs place d → IsLast xs x place
last_of [] x d place last is = absurd (omega (arith, last))
last_of (a ∷ []) x d zero last is = record { outer = []; whole = ap (λ one. one ∷ []) (sym is); set = λ y. refl }
last_of (a ∷ []) x d (suc place) last is = absurd (omega (arith, last))
last_of (a ∷ b ∷ rest) x d zero last is = absurd (omega (arith, last))
last_of (a ∷ b ∷ rest) x d (suc place) last is =
    let behind = last_of (b ∷ rest) x d place (omega (arith, last)) is in
    record { outer = a ∷ behind.outer; whole = ap (λ xs. a ∷ xs) behind.whole; set = λ y. ap (λ xs. a ∷ xs) (behind.set y) }

-- nothing is in a list of no length
pub empty : {T : Type 0} (xs : List T) (size : ℕ) → size ≡ length xs → true ≡ (size == 0) → xs ≡ []
empty [] size is none = refl
empty (x ∷ xs) size is none = absurd (grind (arith, nat_tests, is, none))

-- something is in any other
pub some_in : {T : Type 0} (xs : List T) (size : ℕ) → size ≡ length xs → false ≡ (size == 0) → xs ≢ []
some_in [] size is some none = absurd (grind (arith, nat_tests, is, some))
some_in (x ∷ xs) size is some none = absurd cc
