-- Each certificate whose names, letters and numbers are such has a text.
use Rattle.std.proofs.Common.{◌≡◌, ◌≢◌, ℕ, suc, ◌^◌, ◌<◌, ◌≤◌, nat_le, nat_lt, Bool, true, ◌&&◌, List, [], ◌∷◌, ◌++◌, length, map, flat_map, Option, Some, None, refl, ap, arith}
use Rattle.std.specs.Prelude.{ℤ, pos, negsuc, codes, IfSome, IsTrue, decimal}
use Rattle.std.specs.Char.{is_ascii_lowercase}
use Rattle.std.specs.Int.{IsInRange}
use Rattle.std.specs.List.{AllByRecursion, list_all}
use Rattle.std.specs.Str.Parse.{AllDigits, digits_value}
use Rattle.std.proofs.lemmas.Bool.{and_parts}
use Rattle.std.proofs.lemmas.Bool.Decides.{nat_tests}
use Rattle.std.proofs.lemmas.Str.Parse.{IsNumeralModel, digit_from_value, numerals_by_value, tells_digits}
use Rattle.std.proofs.lemmas.Fmt.{decimal_nonempty, digits_decimal}
use Rattle.tv_words.specs.declared.word.Word.{Word}
use Rattle.tv_words.specs.declared.word.Word.TheVariants.{Bare}
use Rattle.tv_words.specs.Names.{is_name_char}
use Rattle.tv_words.specs.Fields.{IsName, IsNumber, number_word}
use Rattle.tv_words.specs.Canonical.{canonical_text}
use Rattle.tv_words.specs.Words.{is_bare}
use Rattle.tv_words.specs.Texts.{declarations}
use Rattle.tv_words.proofs.CanonicalLineLemmas.{Stands, is_plain}
use Rattle.tv_words.specs.Lines.{lines_of}
use Rattle.tv_words.proofs.CanonicalTextLemmas.{StandInLine, stand_spelled}
use Rattle.tv_model.specs.declared.desc.Version.{Version}
use Rattle.tv_model.specs.declared.desc.Version.TheVariants as versions
use Rattle.tv_model.specs.declared.desc.When.{When}
use Rattle.tv_certificate.specs.declared.certificate.Certificate.{Certificate}
use Rattle.tv_certificate.specs.declared.certificate.Block.{Block}
use Rattle.tv_certificate.specs.declared.certificate.KeyLine.{KeyLine}
use Rattle.tv_certificate.specs.CertificateTexts.{AreBlocks, IsBlock, IsCertificate, IsKeyLine, IsWhen, SpellsCertificateLines, block_lines, certificate_lines, dialog_words, end_words, is_letter, item_words, key_words, tab_words, version_words, when_words}

-- ---- words

-- from `-` to `z`
abbrev is_common : ℕ → Bool
is_common c = nat_le 45 c && nat_le c 122

common : (c : ℕ) → 45 ≤ c → c ≤ 122 → is_common c ≡ true
common c low high = grind (arith, nat_tests)

bare_char : (c : ℕ) → is_common c ≡ true → is_bare c ≡ true
bare_char c e = grind (arith, nat_tests)

plain_char : (c : ℕ) → is_common c ≡ true → is_plain c ≡ true
plain_char c e = grind (arith, nat_tests)

all_chars : (p : ℕ → Bool) → ((c : ℕ) → is_common c ≡ true → p c ≡ true) → (cs : List ℕ) → list_all is_common cs ≡ true → list_all p cs ≡ true
all_chars p f [] e = refl
all_chars p f (c ∷ cs) e = let h = and_parts (is_common c) (list_all is_common cs) e in rw (f c h.0, all_chars p f cs h.1) refl

common_stands : (cs : List ℕ) → cs ≢ [] → list_all is_common cs ≡ true → Stands (Bare cs)
common_stands cs some e = ((some, all_chars is_bare bare_char cs e), all_chars is_plain plain_char cs e)

name_char : (c : ℕ) → is_name_char c ≡ true → is_common c ≡ true
name_char c e = grind (arith, nat_tests)

name_chars : (cs : List ℕ) → list_all is_name_char cs ≡ true → list_all is_common cs ≡ true
name_chars [] e = refl
name_chars (c ∷ cs) e = let h = and_parts (is_name_char c) (list_all is_name_char cs) e in rw (name_char c h.0, name_chars cs h.1) refl

name_stands : (name : List ℕ) → IsName name → Stands (Bare name)
name_stands [] is = absurd cc
name_stands (c ∷ cs) is =
    let h = and_parts (is_ascii_lowercase c) (nat_lt (length cs) 20 && list_all is_name_char cs) is in
    let k = and_parts (nat_lt (length cs) 20) (list_all is_name_char cs) h.1 in
    let first : is_common c ≡ true = grind (arith, nat_tests, h.0) in
    common_stands (c ∷ cs) (λ e. cc) (rw (first, name_chars cs k.1) refl)

own : IsNumeralModel (AllDigits 10) (digits_value 10)
own = numerals_by_value (AllDigits 10) tells_digits

digit_char : (c : ℕ) → IsInRange 48 57 c → is_common c ≡ true
digit_char c r = common c (omega (arith, r.0)) (omega (arith, r.1))

digit_chars : (cs : List ℕ) → AllDigits 10 cs → list_all is_common cs ≡ true
digit_chars [] all = refl
digit_chars (c ∷ cs) all = rw (digit_char c (digit_from_value c all.0), digit_chars cs all.1) refl

some_digits : (n : ℕ) → n < 2 ^ 64 → decimal n ≢ []
some_digits n small e = omega (arith, decimal_nonempty n small, ap length e)

decimal_stands : (n : ℕ) → n < 2 ^ 64 → Stands (Bare (decimal n))
decimal_stands n small = common_stands (decimal n) (some_digits n small) (digit_chars (decimal n) (digits_decimal own n small))

negative_stands : (n : ℕ) → n < 2 ^ 64 → Stands (Bare (45 ∷ decimal n))
negative_stands n small = common_stands (45 ∷ decimal n) (λ e. cc) (digit_chars (decimal n) (digits_decimal own n small))

number_stands : (z : ℤ) → IsNumber z → Stands (number_word z)
number_stands (pos n) fits = decimal_stands n (omega (arith, fits.sfits))
number_stands (negsuc n) fits = negative_stands (suc n) (omega (arith, fits.sfits))

letter_stands : (ch : ℕ) → IsTrue (is_letter ch) → Stands (Bare (ch ∷ []))
letter_stands ch is = let e : is_common ch ≡ true = grind (arith, nat_tests) in common_stands (ch ∷ []) (λ e. cc) (rw e refl)

item_stands : (item : Option ℤ) → IfSome item IsNumber → AllByRecursion Stands (item_words item)
item_stands None fits = tt
item_stands (Some n) fits = (number_stands n fits, tt)

when_stands : (version : Version) (shown : Option When) → IfSome shown (IsWhen version) → AllByRecursion Stands (when_words shown)
when_stands version None is = tt
when_stands version (Some shown) is = (common_stands (codes "when") (λ e. cc) refl, (name_stands shown.radios is.radios, (number_stands shown.item is.item, tt)))

each_word : (ws more : List Word) → AllByRecursion Stands ws → AllByRecursion Stands more → AllByRecursion Stands (ws ++ more)
each_word [] more p q = q
each_word (w ∷ ws) more p q = (p.0, each_word ws more p.1 q)

-- ---- lines

tab_stands : (name : List ℕ) → IsName name → StandInLine (tab_words name)
tab_stands name is = ((common_stands (codes "tab") (λ e. cc) refl, (name_stands name is, tt)), refl)

dialog_stands : (name : List ℕ) → IsName name → StandInLine (dialog_words name)
dialog_stands name is = ((common_stands (codes "dialog") (λ e. cc) refl, (name_stands name is, tt)), refl)

key_stands : (version : Version) (line : KeyLine) → IsKeyLine version line → StandInLine (key_words line)
key_stands version line is = ((common_stands (codes "key") (λ e. cc) refl, (letter_stands line.letter is.letter, (name_stands line.owner is.owner, each_word (item_words line.item) (when_words line.when) (item_stands line.item is.item) (when_stands version line.when is.when)))), refl)

end_stands : StandInLine end_words
end_stands = ((common_stands (codes "end") (λ e. cc) refl, tt), refl)

version_stands : (version : Version) → StandInLine (version_words version)
version_stands versions.One = ((common_stands (codes "tvcert") (λ e. cc) refl, (common_stands (codes "1") (λ e. cc) refl, tt)), refl)
version_stands versions.Two = ((common_stands (codes "tvcert") (λ e. cc) refl, (common_stands (codes "2") (λ e. cc) refl, tt)), refl)

each_stands : {A : Type 0} (P : A → Type 0) (f : A → List Word) → ((x : A) → P x → StandInLine (f x)) → (xs : List A) → AllByRecursion P xs → AllByRecursion StandInLine (map f xs)
each_stands P f to [] are = tt
each_stands P f to (x ∷ xs) are = (to x are.0, each_stands P f to xs are.1)

both_stand : (a b : List (List Word)) → AllByRecursion StandInLine a → AllByRecursion StandInLine b → AllByRecursion StandInLine (a ++ b)
both_stand [] b p q = q
both_stand (ws ∷ a) b p q = (p.0, both_stand a b p.1 q)

block_stands : (version : Version) (block : Block) → IsBlock version block → AllByRecursion StandInLine (block_lines block)
block_stands version block is = (
  dialog_stands block.dialog is.dialog,
  both_stand (map tab_words block.tabs) (map key_words block.keys ++ end_words ∷ []) (each_stands IsName tab_words tab_stands block.tabs is.tabs)
      (both_stand (map key_words block.keys) (end_words ∷ []) (each_stands (IsKeyLine version) key_words (key_stands version) block.keys is.keys) (end_stands, tt)),
)

blocks_stand : (version : Version) (blocks : List Block) → AreBlocks version blocks → AllByRecursion StandInLine (flat_map block_lines blocks)
blocks_stand version [] are = tt
blocks_stand version (block ∷ blocks) are = both_stand (block_lines block) (flat_map block_lines blocks) (block_stands version block are.0) (blocks_stand version blocks are.1)

-- ---- texts

all_declared : (wss : List (List Word)) → AllByRecursion StandInLine wss → declarations wss ≡ wss
all_declared [] stand = refl
all_declared ([] ∷ wss) stand = absurd stand.0
all_declared ((w ∷ ws) ∷ wss) stand = ap (λ x. (w ∷ ws) ∷ x) (all_declared wss stand.1)

-- the canonical text of a certificate spells it
pub canonical_spelled : (certificate : Certificate) → IsCertificate certificate → SpellsCertificateLines (lines_of (canonical_text (certificate_lines certificate))) certificate
canonical_spelled certificate are =
    let lines : List (List Word) = certificate_lines certificate in
    let stand : AllByRecursion StandInLine lines = (version_stands certificate.version, blocks_stand certificate.version certificate.blocks are) in
    record { words = lines; each = stand_spelled lines stand; declared = all_declared lines stand; can = are }
