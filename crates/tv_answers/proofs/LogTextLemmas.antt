-- A line of a log that ends a dialog, or that has a field, is a line of words.
use lib.Utf8.{encode, scalar, scalars}
use Rattle.std.proofs.Common.{◌≡◌, ℕ, zero, suc, ◌+◌, ◌^◌, ◌<◌, ◌≤◌, ◌==◌, ◌&&◌, Bool, true, false, List, [], ◌∷◌, ◌++◌, cond, Some, None, map, filter, flat_map, encode_utf8_all, refl, sym, ap, ◌∙◌, append_assoc, All, arith}
use Rattle.std.specs.Prelude.{pos, codes, decimal, encode_utf8, nat_le, nat_lt, if◌then◌else◌}
use Rattle.std.specs.Char.{is_control}
use Rattle.std.specs.List.{AllByRecursion, list_all, range_with_len}
use Rattle.std.proofs.lemmas.Bool.{and_parts}
use Rattle.std.proofs.lemmas.Bool.Decides.{nat_tests}
use Rattle.std.proofs.lemmas.Fmt.{IsAscii-decimal}
use Rattle.std.proofs.lemmas.List.{append-nil}
use Rattle.std.proofs.lemmas.List.Elements.{All-head, All-tail, All-weaker}
use Rattle.std.proofs.lemmas.List.Folds.{list_all-append}
use Rattle.std.proofs.lemmas.Str.{encodes-IsAscii, encodes-append}
use Rattle.unicode_width.specs.Width.{alone, char_width}
use Rattle.tv_cells.specs.Glyph.{IsNarrow}
use Rattle.tv_machine.proofs.ListLemmas.{bool_cases}
use Rattle.tv_model.specs.declared.record.Value.{Value}
use Rattle.tv_model.specs.declared.record.Value.TheVariants as values
use Rattle.tv_model.specs.Log.LogText.{bytes_of, end_word, escaped_in_log, has_bit, line_of, quoted_text, spaced, value_text}
use Rattle.tv_words.specs.declared.word.Word.{Word}
use Rattle.tv_words.specs.declared.word.Word.TheVariants.{Bare, Quoted}
use Rattle.tv_words.specs.Canonical.{canonical_line, ended_line}
use Rattle.tv_words.specs.Fields.{IsNumber, number_word}
use Rattle.tv_words.specs.Words.{escaped, word_text}
use Rattle.tv_words.proofs.CanonicalLineLemmas.{Stands, is_plain}

-- ---- bytes

pub bytes_same : (cs : List ℕ) → bytes_of cs ≡ encode_utf8_all cs
bytes_same [] = refl
bytes_same (c ∷ cs) = ap (λ bs. encode_utf8 c ++ bs) (bytes_same cs)

abbrev word_bytes : Word → List ℕ
word_bytes w = encode_utf8_all (word_text w)

-- the words, with a space before each
abbrev pub spaced_bytes : List Word → List ℕ
spaced_bytes ws = flat_map (λ w. 32 ∷ word_bytes w) ws

rest_bytes : (ws : List Word) → encode_utf8_all (flat_map (λ w. 32 ∷ word_text w) ws) ≡ spaced_bytes ws
unfolding encode
rest_bytes [] = refl
rest_bytes (w ∷ ws) = encodes-append (32 ∷ word_text w) (flat_map (λ v. 32 ∷ word_text v) ws) ∙ ap (λ bs. (32 ∷ word_bytes w) ++ bs) (rest_bytes ws)

pub line_bytes : (w : Word) (ws : List Word) → encode_utf8_all (canonical_line (w ∷ ws)) ≡ word_bytes w ++ spaced_bytes ws
line_bytes w ws = encodes-append (word_text w) (flat_map (λ v. 32 ∷ word_text v) ws) ∙ ap (λ bs. word_bytes w ++ bs) (rest_bytes ws)

-- ---- texts

-- a text without line feeds is escaped as in a description
escaped_one : (c : ℕ) → (c == 10) ≡ false → escaped_in_log c ≡ encode_utf8_all (escaped c)
unfolding encode
escaped_one c other =
    bool_cases (c == 34)
    (λ b. (if b then 92 ∷ 34 ∷ [] else if c == 92 then 92 ∷ 92 ∷ [] else encode_utf8 c) ≡ encode_utf8_all (if b then 92 ∷ 34 ∷ [] else if c == 92 then 92 ∷ 92 ∷ [] else if c == 10 then 92 ∷ 110 ∷ [] else c ∷ []))
    (λ is. refl)
    (λ no_quote. bool_cases (c == 92)
    (λ b. (if b then 92 ∷ 92 ∷ [] else encode_utf8 c) ≡ encode_utf8_all (if b then 92 ∷ 92 ∷ [] else if c == 10 then 92 ∷ 110 ∷ [] else c ∷ []))
    (λ is. refl)
    (λ no_backslash. sym (ap (λ b. encode_utf8_all (if b then 92 ∷ 110 ∷ [] else c ∷ [])) other ∙ append-nil (encode_utf8 c))))

escaped_all : (cs : List ℕ) → All (λ c. (c == 10) ≡ false) cs → flat_map escaped_in_log cs ≡ encode_utf8_all (flat_map escaped cs)
escaped_all [] all = refl
escaped_all (c ∷ cs) all =
    ap (λ bs. bs ++ flat_map escaped_in_log cs) (escaped_one c (All-head (λ x. (x == 10) ≡ false) c cs all))
    ∙ ap (λ bs. encode_utf8_all (escaped c) ++ bs) (escaped_all cs (All-tail (λ x. (x == 10) ≡ false) c cs all))
    ∙ sym (encodes-append (escaped c) (flat_map escaped cs))

quoted_bytes : (cs : List ℕ) → All (λ c. (c == 10) ≡ false) cs → quoted_text cs ≡ word_bytes (Quoted cs)
unfolding encode
quoted_bytes cs all =
    ap (λ bs. 34 ∷ (bs ++ 34 ∷ [])) (escaped_all cs all)
    ∙ ap (λ bs. 34 ∷ bs) (sym (encodes-append (flat_map escaped cs) (34 ∷ [])))

-- a narrow character is no control character
width_if : (low printable high : Bool) (c x : ℕ) → nat_lt c 127 ≡ low → nat_le 32 c ≡ printable → nat_le 160 c ≡ high → (if low then (if printable then Some 1 else None) else if high then Some x else None) ≡ Some 1
    → (is_control c ≡ false) × ((c == 10) ≡ false)
width_if true true high c x l p h e = (clean c l p, no_feed c p)
  where
    clean : (n : ℕ) → nat_lt n 127 ≡ true → nat_le 32 n ≡ true → is_control n ≡ false
    clean n l p = grind (arith, nat_tests, l, p)

    no_feed : (n : ℕ) → nat_le 32 n ≡ true → (n == 10) ≡ false
    no_feed n p = grind (arith, nat_tests, p)
width_if true false high c x l p h e = absurd cc
width_if false printable true c x l p h e = (clean c h, no_feed c h)
  where
    clean : (n : ℕ) → nat_le 160 n ≡ true → is_control n ≡ false
    clean n h = grind (arith, nat_tests, h)

    no_feed : (n : ℕ) → nat_le 160 n ≡ true → (n == 10) ≡ false
    no_feed n h = grind (arith, nat_tests, h)
width_if false printable false c x l p h e = absurd cc

narrow_clean : (c : ℕ) → IsNarrow c → (is_control c ≡ false) × ((c == 10) ≡ false)
unfolding char_width
narrow_clean c narrow = width_if (nat_lt c 127) (nat_le 32 c) (nat_le 160 c) c (alone false c).0 refl refl refl narrow

no_feeds : (cs : List ℕ) → All IsNarrow cs → All (λ c. (c == 10) ≡ false) cs
no_feeds cs narrow = All-weaker IsNarrow (λ c. (c == 10) ≡ false) (λ c is. (narrow_clean c is).1) cs narrow

plain_one : (c : ℕ) → is_plain c ≡ true → list_all is_plain (escaped c) ≡ true
plain_one c plain =
    bool_cases (c == 34) (λ b. list_all is_plain (if b then 92 ∷ 34 ∷ [] else if c == 92 then 92 ∷ 92 ∷ [] else if c == 10 then 92 ∷ 110 ∷ [] else c ∷ []) ≡ true) (λ is. refl)
    (λ no_quote. bool_cases (c == 92) (λ b. list_all is_plain (if b then 92 ∷ 92 ∷ [] else if c == 10 then 92 ∷ 110 ∷ [] else c ∷ []) ≡ true) (λ is. refl)
    (λ no_backslash. bool_cases (c == 10) (λ b. list_all is_plain (if b then 92 ∷ 110 ∷ [] else c ∷ []) ≡ true) (λ is. refl)
    (λ no_feed. ap (λ b. b && true) plain)))

plain_char : (c : ℕ) → is_control c ≡ false → scalar c ≡ true → is_plain c ≡ true
plain_char c clean is = rw (clean, is) refl

plain_all : (cs : List ℕ) → All IsNarrow cs → scalars cs ≡ true → list_all is_plain (flat_map escaped cs) ≡ true
plain_all [] narrow are = refl
plain_all (c ∷ cs) narrow are =
    let both = and_parts (scalar c) (scalars cs) are in
    let here : list_all is_plain (escaped c) ≡ true = plain_one c (plain_char c (narrow_clean c (All-head IsNarrow c cs narrow)).0 both.0) in
    list_all-append is_plain (escaped c) (flat_map escaped cs) ∙ rw here (plain_all cs (All-tail IsNarrow c cs narrow) both.1)

pub text_word_stands : (cs : List ℕ) → All IsNarrow cs → scalars cs ≡ true → Stands (Quoted cs)
text_word_stands cs narrow are =
    (tt, list_all-append is_plain (flat_map escaped cs) (34 ∷ []) ∙ rw (plain_all cs narrow are) refl)

-- ---- numbers

decimal_bytes : (n : ℕ) → n < 2 ^ 64 → word_bytes (number_word (pos n)) ≡ decimal n
decimal_bytes n small = encodes-IsAscii (decimal n) (IsAscii-decimal n small)

-- ---- values

-- the words of marks that are chosen
abbrev pub items_words : List ℕ → List Word
items_words [] = Bare (codes "-") ∷ []
items_words (item ∷ items) = map (λ n. number_word (pos n)) (item ∷ items)

-- the words of a value
abbrev pub value_words : Value → List Word
value_words (values.Text text) = Quoted text ∷ []
value_words (values.Marks marks) = items_words (filter (has_bit marks) (range_with_len 1 16))
value_words (values.Item item) = number_word (pos item) ∷ []

-- a value that a line of a log can have: a text in characters of one column, or an item that has a number
abbrev pub CanBeLogged : Value → Type 0
CanBeLogged (values.Text text) = All IsNarrow text × (scalars text ≡ true)
CanBeLogged (values.Marks marks) = Unit {0}
CanBeLogged (values.Item item) = IsNumber (pos item)

number_small : (n : ℕ) → IsNumber (pos n) → n < 2 ^ 64
number_small n fits = omega (arith, fits.sfits)

items_bytes : (item : ℕ) (items : List ℕ) → AllByRecursion (λ n. n < 2 ^ 64) (item ∷ items) → spaced_bytes (map (λ n. number_word (pos n)) (item ∷ items)) ≡ 32 ∷ spaced (map decimal (item ∷ items))
items_bytes item [] small = ap (λ bs. 32 ∷ bs) (append-nil (word_bytes (number_word (pos item))) ∙ decimal_bytes item small.0)
items_bytes item (other ∷ items) small =
    ap (λ bs. 32 ∷ (bs ++ spaced_bytes (map (λ n. number_word (pos n)) (other ∷ items)))) (decimal_bytes item small.0)
    ∙ ap (λ bs. 32 ∷ (decimal item ++ bs)) (items_bytes other items small.1)

all_items : (items : List ℕ) → AllByRecursion (λ n. n < 2 ^ 64) items → spaced_bytes (items_words items) ≡ 32 ∷ spaced (map decimal items)
unfolding encode
all_items [] small = refl
all_items (item ∷ items) small = items_bytes item items small

kept_small : (p : ℕ → Bool) (xs : List ℕ) → AllByRecursion (λ n. n < 2 ^ 64) xs → AllByRecursion (λ n. n < 2 ^ 64) (filter p xs)
kept_small p [] small = tt
kept_small p (x ∷ xs) small =
    bool_cases (p x) (λ b. AllByRecursion (λ n. n < 2 ^ 64) (cond b (x ∷ filter p xs) (filter p xs))) (λ is. (small.0, kept_small p xs small.1)) (λ is. kept_small p xs small.1)

range_small : (n a : ℕ) → a + n ≤ 100 → AllByRecursion (λ m. m < 2 ^ 64) (range_with_len a n)
range_small zero a few = tt
range_small (suc n) a few = (omega (arith, few), range_small n (a + 1) (omega (arith, few)))

pub value_bytes : (v : Value) → CanBeLogged v → spaced_bytes (value_words v) ≡ 32 ∷ value_text v
value_bytes (values.Text text) can = ap (λ bs. 32 ∷ bs) (append-nil (word_bytes (Quoted text)) ∙ sym (quoted_bytes text (no_feeds text can.0)))
value_bytes (values.Marks marks) can = all_items (filter (has_bit marks) (range_with_len 1 16)) (kept_small (has_bit marks) (range_with_len 1 16) (range_small 16 1 (omega arith)))
value_bytes (values.Item item) can = ap (λ bs. 32 ∷ bs) (append-nil (word_bytes (number_word (pos item))) ∙ decimal_bytes item (number_small item can))

-- ---- lines

-- a line that has a name, and more
pub field_bytes : (name : List ℕ) (v : Value) → CanBeLogged v → line_of (codes "field ") (bytes_of name ++ codes " " ++ value_text v) ≡ ended_line (Bare (codes "field") ∷ Bare name ∷ value_words v)
unfolding line_of ended_line encode
field_bytes name v can =
    ap (λ bs. codes "field " ++ (bs ++ codes " " ++ value_text v) ++ 10 ∷ []) (bytes_same name)
    ∙ ap (λ bs. codes "field " ++ bs ++ 10 ∷ []) (append_assoc (encode_utf8_all name) (codes " ") (value_text v))
    ∙ ap (λ bs. codes "field " ++ (encode_utf8_all name ++ bs) ++ 10 ∷ []) (sym (value_bytes v can))
    ∙ ap (λ bs. bs ++ 10 ∷ []) (sym (line_bytes (Bare (codes "field")) (Bare name ∷ value_words v)))

word_of_end : (number : ℕ) → encode_utf8_all (end_word number) ≡ end_word number
unfolding encode
word_of_end number =
    bool_cases (number == 10) (λ b. encode_utf8_all (if b then codes "ok" else if number == 11 then codes "cancel" else if number == 12 then codes "yes" else codes "no") ≡ (if b then codes "ok" else if number == 11 then codes "cancel" else if number == 12 then codes "yes" else codes "no")) (λ is. refl)
    (λ no_ok. bool_cases (number == 11) (λ b. encode_utf8_all (if b then codes "cancel" else if number == 12 then codes "yes" else codes "no") ≡ (if b then codes "cancel" else if number == 12 then codes "yes" else codes "no")) (λ is. refl)
    (λ no_cancel. bool_cases (number == 12) (λ b. encode_utf8_all (if b then codes "yes" else codes "no") ≡ (if b then codes "yes" else codes "no")) (λ is. refl) (λ is. refl)))

pub end_bytes : (name : List ℕ) (number : ℕ) → line_of (codes "end ") (bytes_of name ++ codes " " ++ end_word number) ≡ ended_line (Bare (codes "end") ∷ Bare name ∷ Bare (end_word number) ∷ [])
unfolding line_of ended_line encode
end_bytes name number =
    ap (λ bs. codes "end " ++ (bs ++ codes " " ++ end_word number) ++ 10 ∷ []) (bytes_same name)
    ∙ ap (λ bs. codes "end " ++ bs ++ 10 ∷ []) (append_assoc (encode_utf8_all name) (codes " ") (end_word number))
    ∙ ap (λ bs. codes "end " ++ (encode_utf8_all name ++ 32 ∷ bs) ++ 10 ∷ []) (sym (append-nil (encode_utf8_all (end_word number)) ∙ word_of_end number))
    ∙ ap (λ bs. bs ++ 10 ∷ []) (sym (line_bytes (Bare (codes "end")) (Bare name ∷ Bare (end_word number) ∷ [])))
