-- Which place a cell is, and whether it lies in a row.
use Rattle.std.proofs.Common.{◌≡◌, ℕ, Bool, true, false, ◌⊎◌, inl, inr, refl, arith, ◌==◌, ◌&&◌, if◌then◌else◌}
use Rattle.std.proofs.lemmas.Bool.{cases_lt}
use Rattle.tv_cells.specs.Picture.{IsPlace}
use Rattle.tv_cells.specs.Row.{IsInRow}
use Rattle.tv_terminal.specs.Terminal.{Tile, with_tile}
use Rattle.tv_terminal.proofs.ToldLemmas.{and-left, and-right, eq-true, from-eq}

same-or-not : (m n : ℕ) → (m ≡ n) ⊎ (m ≡ n → ⊥)
same-or-not m n = elim (cases_lt m n) [
  | inl lt ↦ inr (λ e. absurd (omega arith))
  | inr le ↦ elim (cases_lt n m) [ inl gt ↦ inr (λ e. absurd (omega arith)) | inr ge ↦ inl (omega arith) ]
]

pub place-test : (column row x y : ℕ) → IsPlace column row x y ⊎ (IsPlace column row x y → ⊥)
place-test column row x y = elim (same-or-not x column) [
  | inl e ↦ elim (same-or-not y row) [ inl f ↦ inl (e, f) | inr apart ↦ inr (λ h. apart h.1) ]
  | inr apart ↦ inr (λ h. apart h.0)
]

pub row-test : (left right this column row : ℕ) → IsInRow left right this column row ⊎ (IsInRow left right this column row → ⊥)
row-test left right this column row = elim (same-or-not row this) [
  | inr apart ↦ inr (λ h. apart h.here)
  | inl e ↦ elim (cases_lt column left) [
    | inl lt ↦ inr (λ h. absurd (omega (arith, h.after)))
    | inr ge ↦ elim (cases_lt column right) [
      | inl less ↦ inl (record { after = ge; before = less; here = e })
      | inr more ↦ inr (λ h. absurd (omega (arith, h.before)))
    ]
  ]
]

pub true-test : (b : Bool) → (b ≡ true) ⊎ (b ≡ true → ⊥)
true-test true = inl refl
true-test false = inr (λ e. absurd cc)

module _ (cells : ℕ → ℕ → Tile) (column row : ℕ) (spot : Tile) where
  pub spot-here : with_tile cells column row spot column row ≡ spot
  spot-here = rw (eq-true column column refl, eq-true row row refl) refl

  spot-by : (x y : ℕ) (b : Bool) → ((x == column) && (y == row)) ≡ b → (IsPlace column row x y → ⊥) → (if b then spot else cells x y) ≡ cells x y
  spot-by x y true e other = absurd (other (from-eq x column (and-left _ (y == row) e), from-eq y row (and-right (x == column) _ e)))
  spot-by x y false e other = refl

  pub spot-other : (x y : ℕ) → (IsPlace column row x y → ⊥) → with_tile cells column row spot x y ≡ cells x y
  spot-other x y other = spot-by x y ((x == column) && (y == row)) refl other
