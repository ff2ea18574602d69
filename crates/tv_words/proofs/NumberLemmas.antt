-- Reading a number gives just the number whose text was read.
use Rattle.std.proofs.Common.{◌≡◌, ℕ, zero, suc, ◌+◌, ◌*◌, ◌^◌, ◌<◌, ◌≤◌, ◌==◌, nat_lt, nat_le, w32, Bool, true, false, ◌&&◌, cond, List, [], ◌∷◌, length, get_or, Option, Some, None, refl, sym, ap, ◌∙◌, arith}
use Rattle.std.specs.Prelude.{ℤ, pos, negsuc, option_and_then, decimal}
use Rattle.std.specs.Fmt.{signed_decimal}
use Rattle.std.specs.Prelude.{FitsSigned}
use Rattle.std.specs.Char.{digit_value}
use Rattle.std.specs.Str.Parse.{AllDigits, digits_value, digits_value_after}
use Rattle.std.proofs.lemmas.Bool.{eqb-true, eqb-false}
use Rattle.std.proofs.lemmas.Bool.Decides.{nat_tests}
use Rattle.std.proofs.lemmas.Str.Parse.{IsNumeralModel, numerals_by_value, tells_digits}
use Rattle.std.proofs.lemmas.Fmt.{decimal_digit, decimal_nonempty, first_decimal, digits_decimal, digits_value-decimal, decimal-digits_value}
use Rattle.tv_words.specs.Reading.Steps.{steps}
use Rattle.tv_words.specs.Reading.Numbers.{add_digit, digits_in, magnitude, minus, negative, positive, zero_only, number_of}

abbrev ReadsDigits : ℕ → List ℕ → ℕ → Type 0
ReadsDigits n cs v = AllDigits 10 cs × (v ≡ digits_value_after 10 n cs)

digit_more : (n c : ℕ) (cs : List ℕ) (v : ℕ) (a b : Bool) → nat_lt (digit_value c) 10 ≡ a → nat_lt (n * 10 + digit_value c) (2 ^ 32) ≡ b → option_and_then (λ m. steps add_digit m cs) (cond (a && b) (Some (n * 10 + digit_value c)) None) ≡ Some v → (digit_value c < 10) × (n * 10 + digit_value c < 2 ^ 32) × (steps add_digit (n * 10 + digit_value c) cs ≡ Some v)
digit_more n c cs v true true ea eb e = (grind (arith, nat_tests), grind (arith, nat_tests), e)
digit_more n c cs v true false ea eb e = absurd cc
digit_more n c cs v false b ea eb e = absurd cc

digits_read : (cs : List ℕ) (n v : ℕ) → n < 2 ^ 32 → steps add_digit n cs ≡ Some v → ReadsDigits n cs v × (v < 2 ^ 32)
digits_read [] n v small e = let same : n ≡ v = cc in ((tt, sym same), omega arith)
digits_read (c ∷ cs) n v small e =
    let h = digit_more n c cs v (nat_lt (digit_value c) 10) (nat_lt (n * 10 + digit_value c) (2 ^ 32)) refl refl e in
    let r = digits_read cs (n * 10 + digit_value c) v h.1 h.2 in
    (((h.0, r.0.0), r.0.1), r.1)

value_ge : (cs : List ℕ) (n : ℕ) → n ≤ digits_value_after 10 n cs
value_ge [] n = omega arith
value_ge (c ∷ cs) n = omega (arith, value_ge cs (n * 10 + digit_value c))

takes : (a b : Bool) (m : ℕ) → a ≡ true → b ≡ true → cond (a && b) (Some m) None ≡ Some m
takes a b m ea eb = rw (ea, eb) refl

takes_digit : (n c : ℕ) → digit_value c < 10 → n * 10 + digit_value c < 2 ^ 32 → add_digit n c ≡ Some (n * 10 + digit_value c)
takes_digit n c a b = takes (nat_lt (digit_value c) 10) (nat_lt (n * 10 + digit_value c) (2 ^ 32)) (n * 10 + digit_value c) (grind (arith, nat_tests)) (grind (arith, nat_tests))

read_digits : (cs : List ℕ) (n : ℕ) → AllDigits 10 cs → digits_value_after 10 n cs < 2 ^ 32 → steps add_digit n cs ≡ Some (digits_value_after 10 n cs)
read_digits [] n all small = refl
read_digits (c ∷ cs) n all small =
    let first : add_digit n c ≡ Some (n * 10 + digit_value c) = takes_digit n c all.0 (omega (arith, value_ge cs (n * 10 + digit_value c))) in
    rw first (read_digits cs (n * 10 + digit_value c) all.1 small)

own : IsNumeralModel (AllDigits 10) (digits_value 10)
own = numerals_by_value (AllDigits 10) tells_digits

magnitude_first : (c : ℕ) (cs : List ℕ) (v : ℕ) (b : Bool) → c == 48 ≡ b → cond b None (digits_in (c ∷ cs)) ≡ Some v → (c == 48 ≡ false) × (digits_in (c ∷ cs) ≡ Some v)
magnitude_first c cs v true eb e = absurd cc
magnitude_first c cs v false eb e = (eb, e)

positive_one : (v : ℕ) {c : ℕ} {cs : List ℕ} → decimal v ≡ c ∷ cs → (c ≡ 48 → ⊥) → 0 < v
positive_one zero text other = let zero_text : decimal 0 ≡ 48 ∷ [] = decimal_digit 0 (omega arith) in absurd (other (cc))
positive_one (suc v) text other = omega arith

-- the digits are the text of the number, and it is not 0
magnitude_read : (cs : List ℕ) (v : ℕ) → magnitude cs ≡ Some v → (decimal v ≡ cs) × (0 < v) × (v < 2 ^ 32)
magnitude_read [] v e = absurd cc
magnitude_read (c ∷ cs) v e =
    let h = magnitude_first c cs v (c == 48) refl e in
    let r = digits_read (c ∷ cs) 0 v (omega arith) h.1 in
    let other : c ≡ 48 → ⊥ = eqb-false c 48 h.0 in
    let text : decimal v ≡ c ∷ cs = ap decimal r.0.1 ∙ decimal-digits_value own (c ∷ cs) r.0.0 (omega arith) (λ is. absurd (other is)) (omega (arith, r.0.1, r.1)) in
    (text, positive_one v text other, r.1)

digits_of_decimal : (cs : List ℕ) (n : ℕ) → cs ≡ decimal n → n < 2 ^ 32 → digits_in cs ≡ Some n
digits_of_decimal cs n e small =
    let all : AllDigits 10 (decimal n) = digits_decimal own n (omega arith) in
    let value : digits_value 10 (decimal n) ≡ n = digits_value-decimal own n (omega arith) in
    rw e (read_digits (decimal n) 0 all (omega (arith, value)) ∙ ap (λ x. Some x) value)

-- a number's first digit is no zero and no minus
first_digit : (c : ℕ) (cs : List ℕ) (n : ℕ) → c ∷ cs ≡ decimal n → 0 < n → n < 2 ^ 32 → 48 < c
first_digit c cs n e some small =
    let first : 48 < get_or (decimal n) 0 0 = first_decimal n some (omega arith) in
    rw (← e) at first

no_digits : (n : ℕ) → [] ≡ decimal n → n < 2 ^ 32 → ⊥
no_digits n e small = omega (arith, decimal_nonempty n (omega arith), ap length e)

not_this : (c d : ℕ) → d < c → c == d ≡ false
not_this c d h = grind (arith, nat_tests)

magnitude_of_decimal : (cs : List ℕ) (n : ℕ) → cs ≡ decimal n → 0 < n → n < 2 ^ 32 → magnitude cs ≡ Some n
magnitude_of_decimal [] n e some small = absurd (no_digits n e small)
magnitude_of_decimal (c ∷ cs) n e some small = rw (not_this c 48 (first_digit c cs n e some small)) (digits_of_decimal (c ∷ cs) n e small)

positive_number : (cs : List ℕ) (n : ℕ) → cs ≡ decimal n → 0 < n → n < 2 ^ 31 → number_of cs ≡ Some (pos n)
positive_number [] n e some small = absurd (no_digits n e (omega arith))
positive_number (c ∷ cs) n e some small =
    let first = first_digit c cs n e some (omega arith) in
    let fits : nat_lt n (2 ^ 31) ≡ true = grind (arith, nat_tests) in
    rw (not_this c 45 (omega arith), not_this c 48 first, digits_of_decimal (c ∷ cs) n e (omega arith), fits) refl

-- the text of a number is read as that number
pub read_number : (z : ℤ) → FitsSigned w32 z → number_of (signed_decimal z) ≡ Some z
read_number (pos zero) fits = rw (decimal_digit 0 (omega arith)) refl
read_number (pos (suc k)) fits = positive_number (decimal (suc k)) (suc k) refl (omega arith) (omega (arith, fits.sfits))
read_number (negsuc k) fits =
    let read : magnitude (decimal (suc k)) ≡ Some (suc k) = magnitude_of_decimal (decimal (suc k)) (suc k) refl (omega arith) (omega (arith, fits.sfits)) in
    let least : nat_le (suc k) (2 ^ 31) ≡ true = grind (arith, nat_tests, fits.sfits) in
    rw (read, least) refl

abbrev IsTextOf : List ℕ → ℤ → Type 0
IsTextOf cs z = (signed_decimal z ≡ cs) × FitsSigned w32 z

negative_if : (v : ℕ) (z : ℤ) (cs : List ℕ) (b : Bool) → nat_le v (2 ^ 31) ≡ b → decimal v ≡ cs → 0 < v → cond b (Some (minus v)) None ≡ Some z → IsTextOf (45 ∷ cs) z
negative_if v z cs false eb text some e = absurd cc
negative_if zero z cs true eb text some e = absurd (omega arith)
negative_if (suc k) z cs true eb text some e =
    let same : negsuc k ≡ z = cc in
    let least : suc k ≤ 2 ^ 31 = grind (arith, nat_tests) in
    rw (← same) (ap (λ x. 45 ∷ x) text, record { sfits = omega arith })

positive_if : (v : ℕ) (z : ℤ) (cs : List ℕ) (b : Bool) → nat_lt v (2 ^ 31) ≡ b → decimal v ≡ cs → cond b (Some (pos v)) None ≡ Some z → IsTextOf cs z
positive_if v z cs false eb text e = absurd cc
positive_if v z cs true eb text e =
    let same : pos v ≡ z = cc in
    let below : v < 2 ^ 31 = grind (arith, nat_tests) in
    rw (← same) (text, record { sfits = omega arith })

negative_read : (cs : List ℕ) (z : ℤ) (o : Option ℕ) → magnitude cs ≡ o → option_and_then negative o ≡ Some z → IsTextOf (45 ∷ cs) z
negative_read cs z None eo e = absurd cc
negative_read cs z (Some v) eo e = let r = magnitude_read cs v eo in negative_if v z cs (nat_le v (2 ^ 31)) refl r.0 r.1 e

positive_read : (cs : List ℕ) (z : ℤ) (o : Option ℕ) → magnitude cs ≡ o → option_and_then positive o ≡ Some z → IsTextOf cs z
positive_read cs z None eo e = absurd cc
positive_read cs z (Some v) eo e = let r = magnitude_read cs v eo in positive_if v z cs (nat_lt v (2 ^ 31)) refl r.0 e

zero_read : (cs : List ℕ) (z : ℤ) → zero_only cs ≡ Some z → IsTextOf (48 ∷ cs) z
zero_read [] z e = let same : pos 0 ≡ z = cc in rw (← same) (decimal_digit 0 (omega arith), record { sfits = omega arith })
zero_read (c ∷ cs) z e = absurd cc

number_if : (c : ℕ) (cs : List ℕ) (z : ℤ) (minus_first zero_first : Bool) → c == 45 ≡ minus_first → c == 48 ≡ zero_first → cond minus_first (option_and_then negative (magnitude cs)) (cond zero_first (zero_only cs) (option_and_then positive (magnitude (c ∷ cs)))) ≡ Some z → IsTextOf (c ∷ cs) z
number_if c cs z true b ea eb e = rw (eqb-true c 45 ea) (negative_read cs z (magnitude cs) refl e)
number_if c cs z false true ea eb e = rw (eqb-true c 48 eb) (zero_read cs z e)
number_if c cs z false false ea eb e = positive_read (c ∷ cs) z (magnitude (c ∷ cs)) refl e

-- what is read is the number of which it is the text
pub number_read : (cs : List ℕ) (z : ℤ) → number_of cs ≡ Some z → (signed_decimal z ≡ cs) × FitsSigned w32 z
number_read [] z e = absurd cc
number_read (c ∷ cs) z e = number_if c cs z (c == 45) (c == 48) refl refl e
