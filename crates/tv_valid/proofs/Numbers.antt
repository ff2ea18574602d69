-- Digits read from the left, and numbers cut off where they are large.
use Rattle.std.proofs.Common.{suc, zero, inl, inr, ◌≡◌, ◌⊎◌, ◌↔◌, ◌+◌, ◌-◌, ◌*◌, ◌/◌, ◌%◌, ◌^◌, ◌≤◌, ◌<◌, ℕ, List, [], ◌∷◌, ◌++◌, length, min, arith, refl, sym, ◌∙◌, ap, subst, length-append}
use Rattle.std.specs.Prelude.{pos, neg_ℤ, ◌≤ℤ◌, ◌<ℤ◌, ℤ, unsigned_abs}
use Rattle.std.specs.List.{All}
use Rattle.std.proofs.lemmas.Int.{ints}
use Rattle.std.proofs.Math.Nat.{pow-suc, one-le-pow, pow-le-pow_right, div-div-eq-div-mul, div-lt_iff_lt-mul, div-add-mod, mod-lt, mul-le-mul_right}
use Rattle.std.proofs.lemmas.List.Elements.{All-nil, All-cons, All-head, All-tail, All-weaker}
use Rattle.std.proofs.lemmas.Bool.Decides.{nat_tests}
use Rattle.tv_cells.specs.Glyph.{IsNarrow}
use Rattle.unicode_width.specs.Width.{char_width}
use Rattle.std.proofs.Math.Numerals.{add-one}
use Rattle.tv_picture.specs.Pattern.{IsDigit}
use Rattle.tv_valid.specs.Domain.{number_of_digits, HasNumber}

pub whole-push : (cs : List ℕ) (c : ℕ) → number_of_digits (cs ++ c ∷ []) ≡ number_of_digits cs * 10 + (c - 48)
whole-push [] c = omega arith
whole-push (d ∷ cs) c =
    let rest = whole-push cs c in
    let e : length (cs ++ c ∷ []) ≡ length cs + 1 = omega (arith, length-append cs (c ∷ [])) in
    let power : 10 ^ length (cs ++ c ∷ []) ≡ 10 ^ length cs * 10 = ap (λ (n : ℕ). 10 ^ n) (e ∙ add-one (length cs)) ∙ pow-suc 10 (length cs) in
    ap (λ (p : ℕ). (d - 48) * p + number_of_digits (cs ++ c ∷ [])) power ∙ ap (λ (w : ℕ). (d - 48) * (10 ^ length cs * 10) + w) rest ∙ grind arith

-- a sum that is cut off at each digit is cut off at the end
pub cut_off : (v d : ℕ) → min (min v 10000000000 * 10 + d) 10000000000 ≡ min (v * 10 + d) 10000000000
cut_off v d = omega arith

-- ---- how many digits write a number

pub cut_more : (n i : ℕ) → n / 10 ^ i / 10 ≡ n / 10 ^ (i + 1)
cut_more n i = div-div-eq-div-mul n (10 ^ i) 10 ∙ ap (λ (p : ℕ). n / p) (sym (ap (λ (k : ℕ). 10 ^ k) (add-one i) ∙ pow-suc 10 i))

ten_power : (k : ℕ) → 0 < 10 ^ k
ten_power k = let h : 1 ≤ 10 ^ k = one-le-pow k 10 (omega arith) in omega arith

pub cut_none : (n k : ℕ) → (n / 10 ^ k ≡ 0) ↔ (n < 10 ^ k)
cut_none n k = (
  (λ e. let h : n / 10 ^ k < 1 = omega arith in let g : n < 1 * 10 ^ k = (div-lt_iff_lt-mul (ten_power k)).0 h in omega arith),
  (λ h. let g : n < 1 * 10 ^ k = omega arith in let f : n / 10 ^ k < 1 = (div-lt_iff_lt-mul (ten_power k)).1 g in omega arith),
)

pub whole_small : (cs : List ℕ) → All IsDigit cs → number_of_digits cs < 10 ^ length cs
whole_small [] all = omega arith
whole_small (c ∷ cs) all =
    let digit = All-head IsDigit c cs all in
    let rest = whole_small cs (All-tail IsDigit c cs all) in
    let power : 10 ^ length (c ∷ cs) ≡ 10 ^ length cs * 10 = pow-suc 10 (length cs) in
    let top : (c - 48) * 10 ^ length cs ≤ 9 * 10 ^ length cs = mul-le-mul_right (10 ^ length cs) (let high = digit.1 in omega arith) in
    omega arith

abbrev Digits : ℕ → ℕ → Type 0
Digits k n = (cs : List ℕ) × (length cs ≡ k) × All IsDigit cs × (number_of_digits cs ≡ n)

digits_of : (k n : ℕ) → n < 10 ^ k → Digits k n
digits_of zero n h = ([], refl, All-nil IsDigit, omega arith)
digits_of (suc k) n h =
    let power : 10 ^ suc k ≡ 10 ^ k * 10 = pow-suc 10 k in
    let small : n < 10 * 10 ^ k = omega arith in
    let top : n / 10 ^ k < 10 = (div-lt_iff_lt-mul (ten_power k)).1 small in
    let rest = digits_of k (n % 10 ^ k) (mod-lt n (ten_power k)) in
    let parts : 10 ^ k * (n / 10 ^ k) + n % 10 ^ k ≡ n = div-add-mod n (10 ^ k) in
    let same : 48 + n / 10 ^ k - 48 ≡ n / 10 ^ k = omega arith in
    let value : (48 + n / 10 ^ k - 48) * 10 ^ length rest.0 + number_of_digits rest.0 ≡ n = ap (λ (d : ℕ). d * 10 ^ length rest.0 + number_of_digits rest.0) same ∙ ap (λ (l : ℕ). n / 10 ^ k * 10 ^ l + number_of_digits rest.0) rest.1 ∙ ap (λ (w : ℕ). n / 10 ^ k * 10 ^ k + w) rest.3 ∙ (grind (arith, parts)) in
    ((48 + n / 10 ^ k) ∷ rest.0, ap suc rest.1, All-cons IsDigit (48 + n / 10 ^ k) rest.0 (omega arith, omega arith) rest.2, value)

narrow_ascii : (c : ℕ) → 32 ≤ c → c < 127 → IsNarrow c
unfolding char_width
narrow_ascii c low high = grind (arith, nat_tests)

narrow_digits : (cs : List ℕ) → All IsDigit cs → All IsNarrow cs
narrow_digits cs all = All-weaker IsDigit IsNarrow (λ c h. narrow_ascii c (let low = h.0 in omega arith) (let high = h.1 in omega arith)) cs all

-- ---- texts of a range

signed_length : (text cs : List ℕ) → (text ≡ cs) ⊎ (text ≡ 43 ∷ cs) → length cs ≤ length text
signed_length text cs (inl e) = omega (arith, ap length e)
signed_length text cs (inr e) = omega (arith, ap length e)

pub number_positive : (m room : ℕ) (greatest : ℤ) → 1 ≤ m → pos m ≤ℤ greatest → (m < 10 ^ room) ↔ HasNumber (pos m) greatest room
number_positive m room greatest low high = (made, needed)
  where
    made : m < 10 ^ room → HasNumber (pos m) greatest room
    made h =
        let d = digits_of room m h in
        let some : 1 ≤ length d.0 = filled d.0 d.3 in
        (d.0, (d.0, (some, d.2), inl (inl refl, (subst (λ (n : ℕ). pos m ≤ℤ pos n) (sym d.3) (omega (arith, ints)), subst (λ (n : ℕ). pos n ≤ℤ greatest) (sym d.3) high))), omega (arith, d.1), narrow_digits d.0 d.2)
      where
        filled : (cs : List ℕ) → number_of_digits cs ≡ m → 1 ≤ length cs
        filled [] e = absurd (omega arith)
        filled (c ∷ cs) e = omega arith

    needed : HasNumber (pos m) greatest room → m < 10 ^ room
    needed (text, (cs, digits, inl (form, between)), short, _) =
        let value = whole_small cs digits.1 in
        let least = between.0 in
        let order : m ≤ number_of_digits cs = omega (arith, ints) in
        let fits : length cs ≤ room = (let s = signed_length text cs form in omega arith) in
        let power : 10 ^ length cs ≤ 10 ^ room = pow-le-pow_right {n = 10} (omega arith) fits in
        omega arith
    needed (text, (cs, digits, inr (form, below, between)), short, _) = absurd (omega (arith, ints))

pub number_negative : (m room : ℕ) (least : ℤ) → 1 ≤ m → 1 ≤ room → least ≤ℤ neg_ℤ (pos m) → (m < 10 ^ (room - 1)) ↔ HasNumber least (neg_ℤ (pos m)) room
number_negative m room least low some high = (made, needed)
  where
    made : m < 10 ^ (room - 1) → HasNumber least (neg_ℤ (pos m)) room
    made h =
        let d = digits_of (room - 1) m h in
        let some : 1 ≤ length d.0 = filled d.0 d.3 in
        (45 ∷ d.0, (d.0, (some, d.2), inr (refl, (omega (arith, ints)), (subst (λ (n : ℕ). least ≤ℤ neg_ℤ (pos n)) (sym d.3) high, subst (λ (n : ℕ). neg_ℤ (pos n) ≤ℤ neg_ℤ (pos m)) (sym d.3) (omega (arith, ints))))), omega (arith, d.1), All-cons IsNarrow 45 d.0 (narrow_ascii 45 (omega arith) (omega arith)) (narrow_digits d.0 d.2))
      where
        filled : (cs : List ℕ) → number_of_digits cs ≡ m → 1 ≤ length cs
        filled [] e = absurd (omega arith)
        filled (c ∷ cs) e = omega arith

    needed : HasNumber least (neg_ℤ (pos m)) room → m < 10 ^ (room - 1)
    needed (text, (cs, digits, inl (form, between)), short, _) = let greatest = between.1 in absurd (omega (arith, ints))
    needed (text, (cs, digits, inr (form, below, between)), short, _) =
        let value = whole_small cs digits.1 in
        let greatest = between.1 in
        let order : m ≤ number_of_digits cs = omega (arith, ints) in
        let fits : length cs ≤ room - 1 = omega (arith, ap length form) in
        let power : 10 ^ length cs ≤ 10 ^ (room - 1) = pow-le-pow_right {n = 10} (omega arith) fits in
        omega arith

pub number_zero : (room : ℕ) (least greatest : ℤ) → 1 ≤ room → least ≤ℤ pos 0 → pos 0 ≤ℤ greatest → HasNumber least greatest room
number_zero room least greatest some low high =
    (48 ∷ [], (48 ∷ [], (omega arith, All-cons IsDigit 48 [] (omega arith, omega arith) (All-nil IsDigit)), inl (inl refl, (low, high))), omega arith, All-cons IsNarrow 48 [] (narrow_ascii 48 (omega arith) (omega arith)) (All-nil IsNarrow))

pub abs_pos : (z : ℤ) → pos 0 <ℤ z → z ≡ pos (unsigned_abs z)
abs_pos z h = omega (arith, ints)

pub abs_neg : (z : ℤ) → z <ℤ pos 0 → z ≡ neg_ℤ (pos (unsigned_abs z))
abs_neg z h = omega (arith, ints)
