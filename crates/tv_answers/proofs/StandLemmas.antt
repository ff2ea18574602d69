-- Words that stand in lines: numbers, texts, and the words of declarations.
use Rattle.std.proofs.Common.{◌≡◌, ◌≢◌, ℕ, suc, ◌^◌, ◌<◌, nat_le, ◌&&◌, Bool, true, List, [], ◌∷◌, ◌++◌, length, map, refl, ap, arith}
use Rattle.std.specs.Prelude.{ℤ, pos, negsuc, codes, decimal}
use Rattle.std.specs.Int.{IsInRange}
use Rattle.std.specs.List.{AllByRecursion, list_all}
use Rattle.std.specs.Str.Parse.{AllDigits, digits_value}
use Rattle.std.proofs.lemmas.Bool.{and_parts}
use Rattle.std.proofs.lemmas.Bool.Decides.{nat_tests}
use Rattle.std.proofs.lemmas.Str.Parse.{IsNumeralModel, digit_from_value, numerals_by_value, tells_digits}
use Rattle.std.proofs.lemmas.Fmt.{decimal_nonempty, digits_decimal}
use Rattle.tv_words.specs.declared.word.Word.{Word}
use Rattle.tv_words.specs.declared.word.Word.TheVariants.{Bare, Quoted}
use Rattle.tv_words.specs.Fields.{IsNumber, number_word}
use Rattle.tv_words.specs.Texts.{EachSpells, declarations}
use Rattle.tv_words.specs.Words.{is_bare}
use Rattle.tv_words.proofs.CanonicalLineLemmas.{Stands, is_plain, words_stand}
use Rattle.tv_words.proofs.CanonicalTextLemmas.{StandInLine}
use Rattle.tv_declarations.specs.Spelling.Nodes.{marks_words}
use Rattle.tv_answers.specs.Filling.{IsSpelledText}

-- ---- numbers

-- from `-` to `z`
abbrev pub is_common : ℕ → Bool
is_common c = nat_le 45 c && nat_le c 122

common : (c : ℕ) → IsInRange 48 57 c → is_common c ≡ true
common c r = grind (arith, nat_tests, r.0, r.1)

bare_char : (c : ℕ) → is_common c ≡ true → is_bare c ≡ true
bare_char c e = grind (arith, nat_tests)

plain_char : (c : ℕ) → is_common c ≡ true → is_plain c ≡ true
plain_char c e = grind (arith, nat_tests)

all_chars : (p : ℕ → Bool) → ((c : ℕ) → is_common c ≡ true → p c ≡ true) → (cs : List ℕ) → list_all is_common cs ≡ true → list_all p cs ≡ true
all_chars p f [] e = refl
all_chars p f (c ∷ cs) e = let h = and_parts (is_common c) (list_all is_common cs) e in rw (f c h.0, all_chars p f cs h.1) refl

pub common_stands : (cs : List ℕ) → cs ≢ [] → list_all is_common cs ≡ true → Stands (Bare cs)
common_stands cs some e = ((some, all_chars is_bare bare_char cs e), all_chars is_plain plain_char cs e)

own : IsNumeralModel (AllDigits 10) (digits_value 10)
own = numerals_by_value (AllDigits 10) tells_digits

digit_chars : (cs : List ℕ) → AllDigits 10 cs → list_all is_common cs ≡ true
digit_chars [] all = refl
digit_chars (c ∷ cs) all = rw (common c (digit_from_value c all.0), digit_chars cs all.1) refl

some_digits : (n : ℕ) → n < 2 ^ 64 → decimal n ≢ []
some_digits n small e = omega (arith, decimal_nonempty n small, ap length e)

pub number_stands : (z : ℤ) → IsNumber z → Stands (number_word z)
number_stands (pos n) fits =
    let small : n < 2 ^ 64 = omega (arith, fits.sfits) in
    common_stands (decimal n) (some_digits n small) (digit_chars (decimal n) (digits_decimal own n small))
number_stands (negsuc n) fits =
    let small : suc n < 2 ^ 64 = omega (arith, fits.sfits) in
    common_stands (45 ∷ decimal (suc n)) (λ e. cc) (digit_chars (decimal (suc n)) (digits_decimal own (suc n) small))

numbers_stand : (ns : List ℤ) → AllByRecursion IsNumber ns → AllByRecursion Stands (map number_word ns)
numbers_stand [] fit = tt
numbers_stand (n ∷ ns) fit = (number_stands n fit.0, numbers_stand ns fit.1)

start_stands : Stands (Bare (codes "start"))
start_stands = common_stands (codes "start") (λ e. cc) refl

pub marks_stand : (ns : List ℤ) → AllByRecursion IsNumber ns → AllByRecursion Stands (marks_words ns)
marks_stand [] fit = tt
marks_stand (n ∷ ns) fit = (start_stands, numbers_stand (n ∷ ns) fit)

pub choice_stands : (n : ℤ) → IsNumber n → AllByRecursion Stands (Bare (codes "start") ∷ number_word n ∷ [])
choice_stands n fits = (start_stands, (number_stands n fits, tt))

-- ---- texts

pub text_stands : (text : List ℕ) → IsSpelledText text → Stands (Quoted text)
text_stands text spelled = (words_stand spelled.0 (Quoted text) [] spelled.1).0.0

-- ---- the words of a line, of which the last are others

pub others_stand : (xs ys zs : List Word) → AllByRecursion Stands (xs ++ ys) → AllByRecursion Stands zs → AllByRecursion Stands (xs ++ zs)
others_stand [] ys zs stand others = others
others_stand (x ∷ xs) ys zs stand others = (stand.0, others_stand xs ys zs stand.1 others)

pub last_stand : (xs ys : List Word) → AllByRecursion Stands (xs ++ ys) → AllByRecursion Stands ys
last_stand [] ys stand = stand
last_stand (x ∷ xs) ys stand = last_stand xs ys stand.1

-- ---- declarations

-- the words of lines that have any stand in lines
pub declared_stand : (lines : List (List ℕ)) (wss : List (List Word)) → EachSpells lines wss → AllByRecursion StandInLine (declarations wss)
declared_stand [] [] h = tt
declared_stand [] (ws ∷ wss) h = absurd h
declared_stand (l ∷ ls) [] h = absurd h
declared_stand (l ∷ ls) ([] ∷ wss) h = declared_stand ls wss h.1
declared_stand (l ∷ ls) ((w ∷ ws) ∷ wss) h = (words_stand l w ws h.0, declared_stand ls wss h.1)

pub all_declared : (wss : List (List Word)) → AllByRecursion StandInLine wss → declarations wss ≡ wss
all_declared [] stand = refl
all_declared ([] ∷ wss) stand = absurd stand.0
all_declared ((w ∷ ws) ∷ wss) stand = ap (λ x. (w ∷ ws) ∷ x) (all_declared wss stand.1)
