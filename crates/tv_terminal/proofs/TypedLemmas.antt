-- Each character that takes a column, in UTF-8, is that character typed.
use Rattle.std.proofs.Common.{ℕ, ◌≡◌, ◌<◌, ◌≤◌, ◌-◌, ◌+◌, ◌*◌, ◌/◌, ◌%◌, ◌⊎◌, inl, inr, refl, sym, ap, ◌∙◌, subst, arith, lit≤, Bool, true, false}
use Rattle.std.proofs.Common.{List, [], ◌∷◌, map, length, Some, None, nat_lt}
use Rattle.std.proofs.lemmas.List.{map-append}
use Rattle.std.proofs.lemmas.Bool.{lt-ltb, le-ltb, le-leb, lt-leb, ne_eqb, and_from, and_right, cases_eq, cases_lt}
use Rattle.std.specs.Prelude.{◌==◌, ◌||◌, if◌then◌else◌, nat_le}
use Rattle.std.specs.Char.{encode_utf8, IsScalar}
use Rattle.std.specs.Int.{is_in_range}
use Rattle.std.specs.List.{AllByRecursion}
use Rattle.std.specs.Str.{encode_utf8_all}
use lib.Utf8.{scalar, scalar_cases}
use Rattle.tv_cells.specs.Glyph.{is_narrow}
use Rattle.tv_event.specs.declared.event.Key.TheVariants as keys
use Rattle.tv_terminal.specs.declared.reading.Reading.{Reading}
use Rattle.tv_terminal.specs.declared.reading.Reading.TheVariants.{Whole, Broken}
use Rattle.tv_terminal.specs.Table.{key_action, typed_char, typed_code}
use Rattle.tv_terminal.specs.Sequences.{last_from, two_more, three_more, reading_of}
use Rattle.tv_terminal.specs.Decoding.{Byte, before, between, decode_after, heard_while}
use Rattle.tv_terminal.specs.Streams.{IsLexeme}
use Rattle.tv_terminal.proofs.StreamLemmas.{decode-lexeme, pasting-still}

passed : {A : Type 0} (test : Bool) (x y : A) → test ≡ false → (if test then x else y) ≡ y
passed test x y e = ap (λ t. if t then x else y) e

chosen : {A : Type 0} (test : Bool) (x y : A) → test ≡ true → (if test then x else y) ≡ x
chosen test x y e = ap (λ t. if t then x else y) e

within : (low high b : ℕ) → low ≤ b → b ≤ high → is_in_range low high b ≡ true
within low high b above below = and_from (nat_le low b) (nat_le b high) (le-leb low b above) (le-leb b high below)

-- the bytes behind the first one
last_read : (c r : ℕ) → r < 64 → last_from c ((128 + r) ∷ []) ≡ Whole (typed_code (64 * c + r))
last_read c r small =
    chosen (is_in_range 128 191 (128 + r)) _ _ (within 128 191 (128 + r) (omega arith) (omega arith))
    ∙ ap (λ n. Whole (typed_code (64 * c + n))) (omega arith)

two_read : (low high c q r : ℕ) → low ≤ 128 + q → 128 + q ≤ high → r < 64
    → two_more low high c ((128 + q) ∷ (128 + r) ∷ []) ≡ Whole (typed_code (64 * (64 * c + q) + r))
two_read low high c q r above below small =
    chosen (is_in_range low high (128 + q)) _ _ (within low high (128 + q) above below)
    ∙ last_read (64 * c + ((128 + q) - 128)) r small
    ∙ ap (λ n. Whole (typed_code (64 * (64 * c + n) + r))) (omega arith)

three_read : (low high c p q r : ℕ) → low ≤ 128 + p → 128 + p ≤ high → q < 64 → r < 64
    → three_more low high c ((128 + p) ∷ (128 + q) ∷ (128 + r) ∷ []) ≡ Whole (typed_code (64 * (64 * (64 * c + p) + q) + r))
three_read low high c p q r above below small_q small =
    chosen (is_in_range low high (128 + p)) _ _ (within low high (128 + p) above below)
    ∙ two_read 128 191 (64 * c + ((128 + p) - 128)) q r (omega arith) (omega arith) small
    ∙ ap (λ n. Whole (typed_code (64 * (64 * (64 * c + n) + q) + r))) (omega arith)

-- behind the tests that are passed from 224 on
abbrev above : ℕ → List ℕ → Reading
above b bs =
    if b == 224 then two_more 160 191 0 bs
    else if b == 237 then two_more 128 159 13 bs
    else if nat_lt b 240 then two_more 128 191 (b - 224) bs
    else if b == 240 then three_more 144 191 0 bs
    else if nat_lt b 244 then three_more 128 191 (b - 240) bs
    else if b == 244 then three_more 128 143 4 bs
    else Broken

from_224 : (b : ℕ) (bs : List ℕ) → 224 ≤ b → reading_of (b ∷ bs) ≡ above b bs
from_224 b bs high =
    passed (b == 27) _ _ (ne_eqb b 27 (λ e. omega arith))
    ∙ passed (nat_lt b 128) _ _ (le-ltb b 128 (omega arith))
    ∙ passed (nat_lt b 194) _ _ (le-ltb b 194 (omega arith))
    ∙ passed (nat_lt b 224) _ _ (le-ltb b 224 high)

-- a character by its six bits at a time
two_bytes : (q r : ℕ) → 2 ≤ q → q < 32 → r < 64 → reading_of ((192 + q) ∷ (128 + r) ∷ []) ≡ Whole (typed_code (64 * q + r))
two_bytes q r low high small =
    passed ((192 + q) == 27) _ _ (ne_eqb (192 + q) 27 (λ e. omega arith))
    ∙ passed (nat_lt (192 + q) 128) _ _ (le-ltb (192 + q) 128 (omega arith))
    ∙ passed (nat_lt (192 + q) 194) _ _ (le-ltb (192 + q) 194 (omega arith))
    ∙ chosen (nat_lt (192 + q) 224) _ _ (lt-ltb (192 + q) 224 (omega arith))
    ∙ last_read ((192 + q) - 192) r small
    ∙ ap (λ n. Whole (typed_code (64 * n + r))) (omega arith)

-- its number without the test of the first bits
abbrev Three : (p q r : ℕ) → Type 0
Three p q r = reading_of ((224 + p) ∷ (128 + q) ∷ (128 + r) ∷ []) ≡ Whole (typed_code (64 * (64 * p + q) + r))

three_other : (p q r : ℕ) → p < 16 → (p ≡ 0 → ⊥) → (p ≡ 13 → ⊥) → q < 64 → r < 64 → Three p q r
three_other p q r small no_zero no_surrogate small_q small_r =
    from_224 (224 + p) ((128 + q) ∷ (128 + r) ∷ []) (omega arith)
    ∙ passed ((224 + p) == 224) _ _ (ne_eqb (224 + p) 224 (λ e. no_zero (omega arith)))
    ∙ passed ((224 + p) == 237) _ _ (ne_eqb (224 + p) 237 (λ e. no_surrogate (omega arith)))
    ∙ chosen (nat_lt (224 + p) 240) _ _ (lt-ltb (224 + p) 240 (omega arith))
    ∙ two_read 128 191 ((224 + p) - 224) q r (omega arith) (omega arith) small_r
    ∙ ap (λ n. Whole (typed_code (64 * (64 * n + q) + r))) (omega arith)

three_bytes : (p q r : ℕ) → p < 16 → (p ≡ 0 → 32 ≤ q) → (p ≡ 13 → q < 32) → q < 64 → r < 64 → Three p q r
three_bytes p q r small long no_surrogate small_q small_r = elim (cases_eq p 0) [
  | inl zero ↦ subst (λ n. Three n q r) (sym zero)
      (let low : 32 ≤ q = long zero in two_read 160 191 0 q r (omega arith) (omega arith) small_r)
  | inr no_zero ↦ elim (cases_eq p 13) [
    | inl thirteen ↦ subst (λ n. Three n q r) (sym thirteen)
        (let high : q < 32 = no_surrogate thirteen in two_read 128 159 13 q r (omega arith) (omega arith) small_r)
    | inr other ↦ three_other p q r small no_zero other small_q small_r
  ]
]

abbrev Four : (o p q r : ℕ) → Type 0
Four o p q r =
    reading_of ((240 + o) ∷ (128 + p) ∷ (128 + q) ∷ (128 + r) ∷ []) ≡ Whole (typed_code (64 * (64 * (64 * o + p) + q) + r))

four_other : (o p q r : ℕ) → o < 4 → (o ≡ 0 → ⊥) → p < 64 → q < 64 → r < 64 → Four o p q r
four_other o p q r small no_zero small_p small_q small_r =
    from_224 (240 + o) ((128 + p) ∷ (128 + q) ∷ (128 + r) ∷ []) (omega arith)
    ∙ passed ((240 + o) == 224) _ _ (ne_eqb (240 + o) 224 (λ e. omega arith))
    ∙ passed ((240 + o) == 237) _ _ (ne_eqb (240 + o) 237 (λ e. omega arith))
    ∙ passed (nat_lt (240 + o) 240) _ _ (le-ltb (240 + o) 240 (omega arith))
    ∙ passed ((240 + o) == 240) _ _ (ne_eqb (240 + o) 240 (λ e. no_zero (omega arith)))
    ∙ chosen (nat_lt (240 + o) 244) _ _ (lt-ltb (240 + o) 244 (omega arith))
    ∙ three_read 128 191 ((240 + o) - 240) p q r (omega arith) (omega arith) small_q small_r
    ∙ ap (λ n. Whole (typed_code (64 * (64 * (64 * n + p) + q) + r))) (omega arith)

four_bytes : (o p q r : ℕ) → o < 5 → (o ≡ 0 → 16 ≤ p) → (o ≡ 4 → p < 16) → p < 64 → q < 64 → r < 64 → Four o p q r
four_bytes o p q r small long no_more small_p small_q small_r = elim (cases_eq o 0) [
  | inl zero ↦ subst (λ n. Four n p q r) (sym zero)
      (let low : 16 ≤ p = long zero in three_read 144 191 0 p q r (omega arith) (omega arith) small_q small_r)
  | inr no_zero ↦ elim (cases_eq o 4) [
    | inl four ↦ subst (λ n. Four n p q r) (sym four)
        (let high : p < 16 = no_more four in three_read 128 143 4 p q r (omega arith) (omega arith) small_q small_r)
    | inr other ↦ four_other o p q r (omega arith) no_zero small_p small_q small_r
  ]
]

neither : (a b : Bool) → a ≡ false → b ≡ false → (a || b) ≡ false
neither true b e f = e
neither false b e f = f

one_byte : (c : ℕ) → 32 ≤ c → (c ≡ 127 → ⊥) → c < 128 → reading_of (c ∷ []) ≡ Whole (typed_char c)
one_byte c shown other small =
    passed (c == 27) _ _ (ne_eqb c 27 (λ e. omega arith))
    ∙ chosen (nat_lt c 128) _ _ (lt-ltb c 128 small)
    ∙ ap Whole
    (passed (c == 9) _ _ (ne_eqb c 9 (λ e. omega arith))
    ∙ passed (c == 10 || c == 13) _ _ (neither (c == 10) (c == 13) (ne_eqb c 10 (λ e. omega arith)) (ne_eqb c 13 (λ e. omega arith)))
    ∙ passed (c == 8 || c == 127) _ _ (neither (c == 8) (c == 127) (ne_eqb c 8 (λ e. omega arith)) (ne_eqb c 127 other))
    ∙ passed (c == 28) _ _ (ne_eqb c 28 (λ e. omega arith))
    ∙ passed (is_in_range 1 26 c) _ _ (and_right (nat_le 1 c) (nat_le c 26) (lt-leb c 26 (omega arith))))

-- a character that takes a column; none of the control characters
pub record IsTypable (c : ℕ) : Type 0 where
  pub scalar : IsScalar c
  pub narrow : is_narrow c ≡ true
  pub shown : 32 ≤ c
  pub other : c ≡ 127 → ⊥

read_along : (c : ℕ) (bytes : List ℕ) → encode_utf8 c ≡ bytes → reading_of bytes ≡ Whole (typed_code c) → length bytes ≤ 32
    → IsLexeme (record { bytes = encode_utf8 c; action = typed_code c })
read_along c bytes e whole short =
    record { whole = ap reading_of e ∙ whole; short = subst (λ bs. length bs ≤ 32) (sym e) short }

two_of : (c : ℕ) → 128 ≤ c → c < 2048 → reading_of ((192 + c / 64) ∷ (128 + c % 64) ∷ []) ≡ Whole (typed_code c)
two_of c long small =
    let sum : 64 * (c / 64) + c % 64 ≡ c = omega arith in
    two_bytes (c / 64) (c % 64) (omega arith) (omega arith) (omega arith) ∙ ap (λ n. Whole (typed_code n)) sum

three_of : (c : ℕ) → IsScalar c → 2048 ≤ c → c < 65536
    → reading_of ((224 + c / 4096) ∷ (128 + (c / 64) % 64) ∷ (128 + c % 64) ∷ []) ≡ Whole (typed_code c)
three_of c is long small =
    let split : 64 * ((c / 64) / 64) + (c / 64) % 64 ≡ c / 64 = omega arith in
    let sum : 64 * (64 * (c / 4096) + (c / 64) % 64) + c % 64 ≡ c = omega arith in
    let ranges : (c < 55296) ⊎ ((57344 ≤ c) × (c < 1114112)) = scalar_cases c is in
    three_bytes (c / 4096) ((c / 64) % 64) (c % 64) (omega arith) (λ e. omega arith)
    (λ e. elim ranges [ inl below ↦ omega arith | inr beyond ↦ absurd (omega arith) ]) (omega arith) (omega arith)
    ∙ ap (λ n. Whole (typed_code n)) sum

four_of : (c : ℕ) → IsScalar c → 65536 ≤ c
    → reading_of ((240 + c / 262144) ∷ (128 + (c / 4096) % 64) ∷ (128 + (c / 64) % 64) ∷ (128 + c % 64) ∷ []) ≡ Whole (typed_code c)
four_of c is long =
    let split : 64 * ((c / 64) / 64) + (c / 64) % 64 ≡ c / 64 = omega arith in
    let again : 64 * ((c / 4096) / 64) + (c / 4096) % 64 ≡ c / 4096 = omega arith in
    let small : c < 1114112 = elim (scalar_cases c is) [ inl below ↦ omega arith | inr beyond ↦ beyond.1 ] in
    let sum : 64 * (64 * (64 * (c / 262144) + (c / 4096) % 64) + (c / 64) % 64) + c % 64 ≡ c = omega arith in
    four_bytes (c / 262144) ((c / 4096) % 64) ((c / 64) % 64) (c % 64) (omega arith) (λ e. omega arith) (λ e. omega arith)
    (omega arith) (omega arith) (omega arith)
    ∙ ap (λ n. Whole (typed_code n)) sum

typed_lexeme : (c : ℕ) → IsTypable c → IsLexeme (record { bytes = encode_utf8 c; action = typed_code c })
unfolding encode_utf8
typed_lexeme c t = elim (cases_lt c 128) [
  | inl one ↦ read_along c (c ∷ []) (chosen (nat_lt c 128) _ _ (lt-ltb c 128 one))
      (one_byte c t.shown t.other one ∙ ap Whole (sym (chosen (scalar c) (typed_char c) None t.scalar))) (lit≤ tt)
  | inr many ↦ elim (cases_lt c 2048) [
    | inl two ↦ read_along c ((192 + c / 64) ∷ (128 + c % 64) ∷ [])
        (passed (nat_lt c 128) _ _ (le-ltb c 128 many) ∙ chosen (nat_lt c 2048) _ _ (lt-ltb c 2048 two))
        (two_of c many two) (lit≤ tt)
    | inr more ↦ elim (cases_lt c 65536) [
      | inl three ↦ read_along c ((224 + c / 4096) ∷ (128 + (c / 64) % 64) ∷ (128 + c % 64) ∷ [])
          (passed (nat_lt c 128) _ _ (le-ltb c 128 many) ∙ passed (nat_lt c 2048) _ _ (le-ltb c 2048 more)
          ∙ chosen (nat_lt c 65536) _ _ (lt-ltb c 65536 three))
          (three_of c t.scalar more three) (lit≤ tt)
      | inr most ↦ read_along c ((240 + c / 262144) ∷ (128 + (c / 4096) % 64) ∷ (128 + (c / 64) % 64) ∷ (128 + c % 64) ∷ [])
          (passed (nat_lt c 128) _ _ (le-ltb c 128 many) ∙ passed (nat_lt c 2048) _ _ (le-ltb c 2048 more)
          ∙ passed (nat_lt c 65536) _ _ (le-ltb c 65536 most))
          (four_of c t.scalar most) (lit≤ tt)
    ]
  ]
]

-- A text of such characters is typed as its characters, and pasted too.
typed_as : (c : ℕ) → IsTypable c → typed_code c ≡ Some (key_action (keys.Char c))
typed_as c t = chosen (scalar c) (typed_char c) None t.scalar ∙ chosen (is_narrow c) _ None t.narrow

no_bracket : (c : ℕ) (reading : Reading) → typed_code c ≡ Some (key_action (keys.Char c)) → reading ≡ Whole (typed_code c) → reading ≡ Whole None → ⊥
no_bracket c reading typed whole other = cc

pub decode-text : (is_pasting : Bool) (cs : List ℕ) → AllByRecursion IsTypable cs
    → decode_after (between is_pasting) (map Byte (encode_utf8_all cs)) ≡ map (λ c. key_action (keys.Char c)) cs
decode-text is_pasting [] all = refl
decode-text is_pasting (c ∷ cs) all =
    let lexeme : IsLexeme (record { bytes = encode_utf8 c; action = typed_code c }) = typed_lexeme c all.0 in
    ap (decode_after (between is_pasting)) (map-append Byte (encode_utf8 c) (encode_utf8_all cs))
    ∙ decode-lexeme is_pasting (encode_utf8 c) (map Byte (encode_utf8_all cs)) (typed_code c) lexeme.whole lexeme.short
    ∙ ap (λ now. before (heard_while is_pasting (typed_code c)) (decode_after (between now) (map Byte (encode_utf8_all cs))))
    (pasting-still is_pasting (encode_utf8 c) (no_bracket c (reading_of (encode_utf8 c)) (typed_as c all.0) lexeme.whole))
    ∙ ap (λ action. before (heard_while is_pasting action) (decode_after (between is_pasting) (map Byte (encode_utf8_all cs)))) (typed_as c all.0)
    ∙ ap (λ actions. key_action (keys.Char c) ∷ actions) (decode-text is_pasting cs all.1)
