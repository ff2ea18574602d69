-- What stands in a column behind the first text.
use Rattle.std.proofs.Common.{◌≡◌, ◌≤◌, ◌+◌, ◌-◌, ℕ, List, ◌∷◌, Option, false, nat_lt, arith, refl}
use Rattle.std.proofs.lemmas.Bool.Decides.{nat_tests}
use Rattle.tv_machine.specs.Screen.Bars.{Spot, columns_of, spot_in}

lt_false : (a b : ℕ) → b ≤ a → nat_lt a b ≡ false
lt_false a b h = grind (arith, nat_tests)

-- what is asked of the spot may be all of it, or its place
module _ {Entry Answer : Type 0} (seen : Option (Spot Entry) → Answer) (text : Entry → List ℕ) (place first column : ℕ) (others : List Entry) (found : Answer) where
  behind : (entry : Entry) → columns_of (text entry) ≤ column → ((from : ℕ) → found ≡ seen (spot_in text (place + 1) from others (from + (column - columns_of (text entry)))))
      → found ≡ seen (spot_in text place first (entry ∷ others) (first + column))
  behind entry le is =
      let before : nat_lt (first + column) first ≡ false = lt_false (first + column) first (omega arith) in
      let inside : nat_lt (first + column) (first + columns_of (text entry)) ≡ false = lt_false (first + column) (first + columns_of (text entry)) (omega (arith, le)) in
      let same : first + columns_of (text entry) + (column - columns_of (text entry)) ≡ first + column = omega (arith, le) in
      rw (before, inside, ← same) (is (first + columns_of (text entry)))

  pub spot_behind : (columns : ℕ) (entries : List Entry) (entry : Entry) (shown : List ℕ)
      → entries ≡ entry ∷ others → shown ≡ text entry → columns ≡ columns_of shown → columns ≤ column
      → ((from : ℕ) → found ≡ seen (spot_in text (place + 1) from others (from + (column - columns))))
      → found ≡ seen (spot_in text place first entries (first + column))
  spot_behind columns entries entry shown all-is shown-is columns-is le is =
      let wide : columns_of (text entry) ≡ columns = rw (columns-is, shown-is) refl in
      rw (all-is) (behind entry (rw (wide) le) (rw (wide) is))
