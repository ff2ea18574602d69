-- A number is zero where none of its bits is set.
use Rattle.std.proofs.Common.{◌≡◌, ℕ, zero, suc, arith, refl, sym, subst, ◌∙◌}
use Rattle.std.specs.Int.{IsBitSet, bit_at}
use Rattle.std.proofs.lemmas.Nat.Bits.{bit_at-lt, bit_at-zero, same_from_bits}
use Rattle.tv_picture.proofs.BitLemmas.{bit_is_one, bit_is_set}

pub none_set : (n : ℕ) → n ≡ 0 → (k : ℕ) → IsBitSet n k → ⊥
none_set n is k set = of (subst (λ (m : ℕ). IsBitSet m k) is set)
  where
    of : IsBitSet 0 k → ⊥
    of here = let one_bit = bit_is_one 0 k here in let zero_bit = bit_at-zero k in omega (arith, one_bit, zero_bit)

pub no_bits : (n : ℕ) → ((k : ℕ) → IsBitSet n k → ⊥) → n ≡ 0
no_bits n never = same_from_bits n 0 (λ k. unset k (bit_at n k) refl ∙ sym (bit_at-zero k))
  where
    unset : (k b : ℕ) → bit_at n k ≡ b → bit_at n k ≡ 0
    unset k zero e = e
    unset k (suc zero) e = absurd (never k (bit_is_set n k e))
    unset k (suc (suc b)) e = absurd (let small = bit_at-lt n k in omega (arith, e, small))
