-- The marks of check boxes as they are declared.
use Rattle.std.proofs.Common.{◌≡◌, ◌≢◌, ◌⊎◌, inl, inr, ◌<◌, ℕ, ◌-◌, ◌^◌, ◌==◌, Bool, true, false, ◌||◌, List, [], ◌∷◌, max, sym, ap, ◌∙◌, arith}
use Rattle.std.specs.Prelude.{ℤ}
use Rattle.std.specs.Int.{bit_at}
use Rattle.std.specs.List.{list_any}
use Rattle.std.proofs.lemmas.Bool.Decides.{eqb_tells}
use Rattle.std.proofs.lemmas.Nat.Bits.{bit_at-lt, bit_at-pow_other, bit_at-pow_same, bit_at-zero, bit_at_or}
use Rattle.tv_model.specs.Description.Numbers.{natural}
use Rattle.tv_model.specs.Kinds.Cluster.{marks_of}

-- whether one of the items stands at this bit
abbrev pub stands_at : ℕ → List ℤ → Bool
stands_at bit items = list_any (λ item. (natural item - 1) == bit) items

larger_one : (b : ℕ) → b < 2 → max 1 b ≡ 1
larger_one b less = omega (arith, less)

larger_zero : (b : ℕ) → max 0 b ≡ b
larger_zero b = omega arith

-- a bit of the marks is that of an item
pub mark_at : (items : List ℤ) (bit : ℕ) → (bit_at (marks_of items) bit == 1) ≡ stands_at bit items
mark_at [] bit = ap (λ (n : ℕ). n == 1) (bit_at-zero bit)
mark_at (item ∷ items) bit =
    ap (λ (n : ℕ). n == 1) (bit_at_or (2 ^ (natural item - 1)) (marks_of items) bit)
    ∙ of (natural item - 1) (mark_at items bit) (eqb_tells (natural item - 1) bit)
  where
    of : (k : ℕ) → (bit_at (marks_of items) bit == 1) ≡ stands_at bit items → ((k == bit) ≡ true) × (k ≡ bit) ⊎ ((k == bit) ≡ false) × (k ≢ bit)
        → (max (bit_at (2 ^ k) bit) (bit_at (marks_of items) bit) == 1) ≡ ((k == bit) || stands_at bit items)
    of k rest (inl h) =
        ap (λ (n : ℕ). max n (bit_at (marks_of items) bit) == 1) (ap (λ (n : ℕ). bit_at (2 ^ k) n) (sym h.1) ∙ bit_at-pow_same k)
        ∙ ap (λ (n : ℕ). n == 1) (larger_one (bit_at (marks_of items) bit) (bit_at-lt (marks_of items) bit))
        ∙ sym (ap (λ b. b || stands_at bit items) h.0)
    of k rest (inr h) =
        ap (λ (n : ℕ). max n (bit_at (marks_of items) bit) == 1) (bit_at-pow_other k bit (λ e. h.1 (sym e)))
        ∙ ap (λ (n : ℕ). n == 1) (larger_zero (bit_at (marks_of items) bit))
        ∙ rest
        ∙ sym (ap (λ b. b || stands_at bit items) h.0)

pub apart : (a b : ℕ) → (a ≡ b → ⊥) → (a == b) ≡ false
apart a b n = of (eqb_tells a b)
  where
    of : ((a == b) ≡ true) × (a ≡ b) ⊎ ((a == b) ≡ false) × (a ≢ b) → (a == b) ≡ false
    of (inl h) = absurd (n h.1)
    of (inr h) = h.0
