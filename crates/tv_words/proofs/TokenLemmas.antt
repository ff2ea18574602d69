-- The texts of tokens.
use Rattle.std.proofs.Common.{◌≡◌, ℕ, suc, ◌<◌, ◌≤◌, ◌==◌, Bool, true, false, cond, List, [], ◌∷◌, length, Option, Some, None, IsUtf8, chars, refl, ap, arith}
use Rattle.std.specs.Prelude.{ℤ}
use Rattle.std.proofs.lemmas.Str.{chars-encodes, length-le-encodes}
use Rattle.std.proofs.lemmas.Fmt.{length_signed_le}
use Rattle.tv_words.specs.TokenTexts.{text_from}
use Rattle.tv_words.specs.Reading.Numbers.{number_of}
use Rattle.tv_words.proofs.NumberLemmas.{number_read}

-- ---- texts between quotes

longer_if : (p q : Bool) (c : ℕ) (xs ys cs : List ℕ) → length xs ≤ length cs → length ys ≤ length cs → length (cond p [] (cond q xs (c ∷ ys))) ≤ suc (length cs)
longer_if true q c xs ys cs h k = omega arith
longer_if false true c xs ys cs h k = omega (arith, h)
longer_if false false c xs ys cs h k = omega (arith, k)

-- undone, the escapes take no more characters
text_within : (escape : Bool) (cs : List ℕ) → length (text_from escape cs) ≤ length cs
text_within true [] = omega arith
text_within false [] = omega arith
text_within true (c ∷ cs) = omega (arith, text_within false cs)
text_within false (c ∷ cs) = longer_if (c == 34) (c == 92) c (text_from true cs) (text_from false cs) cs (text_within true cs) (text_within false cs)

chars_within : (bs : List ℕ) → IsUtf8 bs → length (chars bs) ≤ length bs
chars_within bs (cs, (all, e)) = rw (← e, chars-encodes cs all) (length-le-encodes cs)

-- there are no more characters than bytes
pub text_fits : (bs : List ℕ) → IsUtf8 bs → length (text_from false (chars bs)) ≤ length bs
text_fits bs utf8 = omega (arith, text_within false (chars bs), chars_within bs utf8)

-- ---- numbers

long_if : (cs : List ℕ) (o : Option ℤ) → number_of cs ≡ o → 11 < length cs → o ≡ None
long_if cs None e long = refl
long_if cs (Some z) e long =
    let read = number_read cs z e in
    let short = length_signed_le 10 z (omega (arith, read.1.sfits)) (omega (arith, read.1.sfits)) in
    absurd (omega (arith, ap length read.0, short))

-- more than 11 characters are no number of 32 bits
pub long_number : (cs : List ℕ) → 11 < length cs → number_of cs ≡ None
long_number cs long = long_if cs (number_of cs) refl long
