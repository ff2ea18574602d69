-- What stands at a place of a list, and the place of what is found there.
use Rattle.std.proofs.Common.{◌≡◌, ℕ, zero, suc, ◌<◌, ◌≤◌, Bool, true, false, cond, nat_lt, List, [], ◌∷◌, length, find, position, Some, None, All, refl, ap, ◌∙◌, subst, arith}
use Rattle.std.specs.List.{position_or_len, slice_get}
use Rattle.std.proofs.lemmas.Bool.Decides.{nat_tests}
use Rattle.std.proofs.lemmas.List.Elements.{All-head, All-tail}
use Rattle.std.proofs.lemmas.List.Folds.{find_at}
use Rattle.std.proofs.lemmas.Option.{slice_get_past}
use Rattle.tv_machine.proofs.ListLemmas.{bool_cases}

module _ {A : Type 0} where
  pub all-got : (P : A → Type 0) (xs : List A) (place : ℕ) (x : A) → All P xs → slice_get xs place ≡ Some x → P x
  all-got P [] place x all e = absurd cc
  all-got P (y ∷ xs) zero x all e = let same : y ≡ x = cc in subst P same (All-head P y xs all)
  all-got P (y ∷ xs) (suc place) x all e = all-got P xs place x (All-tail P y xs all) e

  pub got-within : (xs : List A) (place : ℕ) → place < length xs → (x : A) × (slice_get xs place ≡ Some x)
  got-within [] place within = absurd (omega (arith, within))
  got-within (x ∷ xs) zero within = (x, refl)
  got-within (x ∷ xs) (suc place) within = got-within xs place (omega (arith, within))

inside : (n m : ℕ) → nat_lt n m ≡ true → n < m
inside n m e = grind (arith, nat_tests)

past : (n m : ℕ) → nat_lt n m ≡ false → m ≤ n
past n m e = grind (arith, nat_tests)

-- what a test finds stands at this place
pub record IsFoundAt {A : Type 0} (p : A → Bool) (xs : List A) (place : ℕ) : Type 0 where
  pub item : A
  pub found : find p xs ≡ Some item
  pub at : slice_get xs place ≡ Some item
  pub within : place < length xs

module _ {A : Type 0} (p : A → Bool) (xs : List A) where
  abbrev first : ℕ
  first = position_or_len p xs

  pub found-at : (place : ℕ) → position p xs ≡ Some place → IsFoundAt p xs place
  found-at place e =
      bool_cases (nat_lt first (length xs)) (λ b. cond b (Some first) None ≡ Some place → IsFoundAt p xs place)
      (λ is f.
      let same : first ≡ place = cc in
      let within : place < length xs = subst (λ n. n < length xs) same (inside first (length xs) is) in
      let got = got-within xs place within in
      record { item = got.0; found = find_at p xs ∙ (ap (slice_get xs) same ∙ got.1); at = got.1; within = within })
      (λ is f. absurd cc) e

  pub not-found : position p xs ≡ None → find p xs ≡ None
  not-found e =
      bool_cases (nat_lt first (length xs)) (λ b. cond b (Some first) None ≡ None → find p xs ≡ None)
      (λ is f. absurd cc) (λ is f. find_at p xs ∙ slice_get_past xs first (past first (length xs) is)) e
