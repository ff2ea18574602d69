-- The bits of a union.
use Rattle.std.proofs.Common.{suc, zero, ◌≡◌, ◌≢◌, ◌⊎◌, inl, inr, ◌↔◌, ℕ, ◌+◌, ◌*◌, ◌/◌, ◌%◌, ◌^◌, ◌<◌, ◌≤◌, max, true, false, ◌==◌, bit_and, bit_or, arith, refl, ◌∙◌, sym, ap, subst, ◌-◌, div-le_self, min, bit_xor}
use Rattle.std.specs.Int.{IsBitSet, bit_at, trailing_zeros, w128}
use Rattle.std.specs.Int.Count.{trailing_of_zero}
use Rattle.std.proofs.lemmas.Nat.Bits.{and_pow, bit_at_and, bit_at_xor, bit_at-lt, bit_at-trailing_zeros, bit_at-zero, bit_at_or, bit_at_above, same_from_bits}
use Rattle.std.proofs.lemmas.Nat.{pow_pos, shr-shr}
use Rattle.std.proofs.lemmas.Bool.Decides.{eqb_tells}
use Rattle.std.proofs.Math.Nat.{div-lt_iff_lt-mul}

-- a product by 0 or 1 that isn't 0
one_of : (b m p : ℕ) → b < 2 → m ≡ b * p → m ≢ 0 → b ≡ 1
one_of zero m p h e n = absurd (n (omega arith))
one_of (suc zero) m p h e n = refl
one_of (suc (suc b)) m p h e n = absurd (omega arith)

pub bit_is_one : (n k : ℕ) → IsBitSet n k → bit_at n k ≡ 1
bit_is_one n k h = one_of (bit_at n k) (bit_and n (2 ^ k)) (2 ^ k) (bit_at-lt n k) (and_pow n k) h

pub bit_is_set : (n k : ℕ) → bit_at n k ≡ 1 → IsBitSet n k
bit_is_set n k h = λ z. absurd (grind (arith, and_pow n k, h, z))

larger : (a b : ℕ) → a < 2 → max a b ≡ 1 → (a ≡ 1) ⊎ (b ≡ 1)
larger zero b h e = inr (omega arith)
larger (suc zero) b h e = inl refl
larger (suc (suc a)) b h e = absurd (omega arith)

pub union_bits : (m n k : ℕ) → IsBitSet (bit_or m n) k ↔ (IsBitSet m k ⊎ IsBitSet n k)
union_bits m n k = (
  (λ h. sides (larger (bit_at m k) (bit_at n k) (bit_at-lt m k) (sym (bit_at_or m n k) ∙ bit_is_one (bit_or m n) k h))),
  (λ h. bit_is_set (bit_or m n) k (joined h)),
)
  where
    sides : (bit_at m k ≡ 1) ⊎ (bit_at n k ≡ 1) → IsBitSet m k ⊎ IsBitSet n k
    sides (inl e) = inl (bit_is_set m k e)
    sides (inr e) = inr (bit_is_set n k e)

    joined : IsBitSet m k ⊎ IsBitSet n k → bit_at (bit_or m n) k ≡ 1
    joined (inl h) = let a = bit_is_one m k h in let b = bit_at-lt n k in let e = bit_at_or m n k in omega arith
    joined (inr h) = let b = bit_is_one n k h in let a = bit_at-lt m k in let e = bit_at_or m n k in omega arith

-- nothing is left of a number whose bits are all below k
pub none_above : (n k i : ℕ) → n / 2 ^ k ≡ 0 → k ≤ i → IsBitSet n i → ⊥
none_above n k i e h set =
    let power : 0 < 2 ^ k = pow_pos k in
    let low : n / 2 ^ k < 1 = omega arith in
    let small : n < 1 * 2 ^ k = (div-lt_iff_lt-mul power).0 low in
    let zero_bit = bit_at_above n k i (omega arith) h in
    let one_bit = bit_is_one n i set in
    omega arith

not_one : (b : ℕ) → b < 2 → b ≢ 1 → b ≡ 0
not_one zero h n = refl
not_one (suc zero) h n = absurd (n refl)
not_one (suc (suc b)) h n = absurd (omega arith)

-- and the other way round
pub none_left : (n k : ℕ) → ((i : ℕ) → k ≤ i → IsBitSet n i → ⊥) → n / 2 ^ k ≡ 0
none_left n k never = same_from_bits (n / 2 ^ k) 0 (λ i. ap (λ x. x % 2) (shr-shr n k i) ∙ unset (k + i) (omega arith) ∙ sym (bit_at-zero i))
  where
    unset : (i : ℕ) → k ≤ i → bit_at n i ≡ 0
    unset i above = not_one (bit_at n i) (bit_at-lt n i) (λ e. never i above (bit_is_set n i e))

-- a number shifted down has the bits from a place on
pub shifted_bits : (n p k : ℕ) → IsBitSet (n / 2 ^ p) k ↔ IsBitSet n (p + k)
shifted_bits n p k =
    let e : bit_at (n / 2 ^ p) k ≡ bit_at n (p + k) = ap (λ (x : ℕ). x % 2) (shr-shr n p k) in
    ((λ h. bit_is_set n (p + k) (sym e ∙ bit_is_one (n / 2 ^ p) k h)), (λ h. bit_is_set (n / 2 ^ p) k (e ∙ bit_is_one n (p + k) h)))

shifted_small : (n p : ℕ) → n < 2 ^ 128 → n / 2 ^ p < 2 ^ 128
shifted_small n p small = let less : n / 2 ^ p ≤ n = div-le_self n (2 ^ p) in omega arith

-- below its lowest bit a number has none
pub none_below : (n k : ℕ) → n < 2 ^ 128 → k < trailing_zeros w128 n → IsBitSet n k → ⊥
none_below zero k small low set = let one_bit = bit_is_one 0 k set in let zero_bit = bit_at-zero k in omega arith
none_below (suc n) k small low set =
    let one_bit = bit_is_one (suc n) k set in
    let zero_bit = (bit_at-trailing_zeros w128 (suc n) (omega arith) small).2 k low in
    omega arith

-- and there it has one
pub lowest_is_set : (n : ℕ) → n < 2 ^ 128 → trailing_zeros w128 n < 128 → IsBitSet n (trailing_zeros w128 n)
lowest_is_set zero small low = absurd (let e = trailing_of_zero 128 in omega arith)
lowest_is_set (suc n) small low = bit_is_set (suc n) (trailing_zeros w128 (suc n)) (bit_at-trailing_zeros w128 (suc n) (omega arith) small).1

-- the same from a place on
pub none_between : (n p k : ℕ) → n < 2 ^ 128 → p ≤ k → k < p + trailing_zeros w128 (n / 2 ^ p) → IsBitSet n k → ⊥
none_between n p k small above low set =
    let e : k ≡ p + (k - p) = omega arith in
    none_below (n / 2 ^ p) (k - p) (shifted_small n p small) (omega arith) ((shifted_bits n p (k - p)).1 (subst (IsBitSet n) e set))

pub next_is_set : (n p : ℕ) → n < 2 ^ 128 → p + trailing_zeros w128 (n / 2 ^ p) < 128 → IsBitSet n (p + trailing_zeros w128 (n / 2 ^ p))
next_is_set n p small low = (shifted_bits n p (trailing_zeros w128 (n / 2 ^ p))).0 (lowest_is_set (n / 2 ^ p) (shifted_small n p small) (omega arith))

-- the bits above which there is none at once
edge_cases : (a b x : ℕ) → a < 2 → b < 2 → x ≡ (a + min a b) % 2 → x ≡ 1 → (a ≡ 1) × (b ≡ 0)
edge_cases zero b x ha hb e f = absurd (omega (arith, e, f))
edge_cases (suc zero) zero x ha hb e f = (refl, refl)
edge_cases (suc zero) (suc zero) x ha hb e f = absurd (omega (arith, e, f))
edge_cases (suc zero) (suc (suc b)) x ha hb e f = absurd (omega arith)
edge_cases (suc (suc a)) b x ha hb e f = absurd (omega arith)

edge_bit : (n k : ℕ) → bit_at (bit_xor n (bit_and n (n / 2))) k ≡ (bit_at n k + min (bit_at n k) (bit_at n (1 + k))) % 2
edge_bit n k = bit_at_xor n (bit_and n (n / 2)) k ∙ ap (λ (x : ℕ). (bit_at n k + x) % 2) (bit_at_and n (n / 2) k ∙ ap (λ (x : ℕ). min (bit_at n k) x) (ap (λ (x : ℕ). x % 2) (shr-shr n 1 k)))

pub edge_bits : (n k : ℕ) → IsBitSet (bit_xor n (bit_and n (n / 2))) k ↔ (IsBitSet n k × (IsBitSet n (k + 1) → ⊥))
edge_bits n k = (forth, λ h. back h.0 h.1)
  where
    up : 1 + k ≡ k + 1
    up = omega arith

    forth : IsBitSet (bit_xor n (bit_and n (n / 2))) k → IsBitSet n k × (IsBitSet n (k + 1) → ⊥)
    forth h =
        let both = edge_cases (bit_at n k) (bit_at n (1 + k)) (bit_at (bit_xor n (bit_and n (n / 2))) k) (bit_at-lt n k) (bit_at-lt n (1 + k)) (edge_bit n k) (bit_is_one (bit_xor n (bit_and n (n / 2))) k h) in
        (bit_is_set n k both.0, λ above. let one_bit = bit_is_one n (1 + k) (subst (IsBitSet n) (sym up) above) in let none = both.1 in omega (arith, one_bit, none))

    back : IsBitSet n k → (IsBitSet n (k + 1) → ⊥) → IsBitSet (bit_xor n (bit_and n (n / 2))) k
    back h none =
        let one_bit : bit_at n k ≡ 1 = bit_is_one n k h in
        let zero_bit : bit_at n (1 + k) ≡ 0 = not_one (bit_at n (1 + k)) (bit_at-lt n (1 + k)) (λ e. none (subst (IsBitSet n) up (bit_is_set n (1 + k) e))) in
        bit_is_set (bit_xor n (bit_and n (n / 2))) k (edge_bit n k ∙ ap (λ (x : ℕ). (x + min x (bit_at n (1 + k))) % 2) one_bit ∙ ap (λ (x : ℕ). (1 + min 1 x) % 2) zero_bit)

-- the bits of one number that aren't those of another
left_bit : (m n k : ℕ) → bit_at (bit_xor m (bit_and m n)) k ≡ (bit_at m k + min (bit_at m k) (bit_at n k)) % 2
left_bit m n k = bit_at_xor m (bit_and m n) k ∙ ap (λ (x : ℕ). (bit_at m k + x) % 2) (bit_at_and m n k)

pub left_bits : (m n k : ℕ) → IsBitSet (bit_xor m (bit_and m n)) k ↔ (IsBitSet m k × (IsBitSet n k → ⊥))
left_bits m n k = (forth, λ h. back h.0 h.1)
  where
    forth : IsBitSet (bit_xor m (bit_and m n)) k → IsBitSet m k × (IsBitSet n k → ⊥)
    forth h =
        let both = edge_cases (bit_at m k) (bit_at n k) (bit_at (bit_xor m (bit_and m n)) k) (bit_at-lt m k) (bit_at-lt n k) (left_bit m n k) (bit_is_one (bit_xor m (bit_and m n)) k h) in
        (bit_is_set m k both.0, λ other. let one_bit = bit_is_one n k other in let none = both.1 in omega (arith, one_bit, none))

    back : IsBitSet m k → (IsBitSet n k → ⊥) → IsBitSet (bit_xor m (bit_and m n)) k
    back h none =
        let one_bit : bit_at m k ≡ 1 = bit_is_one m k h in
        let zero_bit : bit_at n k ≡ 0 = not_one (bit_at n k) (bit_at-lt n k) (λ e. none (bit_is_set n k e)) in
        bit_is_set (bit_xor m (bit_and m n)) k (left_bit m n k ∙ ap (λ (x : ℕ). (x + min x (bit_at n k)) % 2) one_bit ∙ ap (λ (x : ℕ). (1 + min 1 x) % 2) zero_bit)

-- a bit is set or not
pub set_or_not : (n k : ℕ) → IsBitSet n k ⊎ (IsBitSet n k → ⊥)
set_or_not n k = told (eqb_tells (bit_at n k) 1)
  where
    told : ((bit_at n k == 1) ≡ true) × (bit_at n k ≡ 1) ⊎ ((bit_at n k == 1) ≡ false) × (bit_at n k ≢ 1) → IsBitSet n k ⊎ (IsBitSet n k → ⊥)
    told (inl h) = inl (bit_is_set n k h.1)
    told (inr h) = inr (λ set. h.1 (bit_is_one n k set))
