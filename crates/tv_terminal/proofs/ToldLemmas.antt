-- What a terminal makes of the sequences that are written.
use Rattle.std.proofs.Common.{◌≡◌, ℕ, ◌+◌, ◌-◌, ◌*◌, ◌/◌, ◌%◌, ◌<◌, ◌≤◌, Bool, true, false, List, [], ◌∷◌, ◌++◌, Option, Some, None, refl, ap, ◌∙◌, arith, encode_utf8, nat_le, nat_lt, zero, suc, ◌&&◌, ◌==◌, inl, inr, IfSome, unwrap_or, min, max, slice_index, sym, if◌then◌else◌}
use Rattle.std.proofs.lemmas.Bool.{cases_lt, ne_eqb}
use Rattle.std.proofs.lemmas.Bool.Decides.{nat_tests}
use Rattle.std.proofs.lemmas.Str.{encode_ascii}
use lib.Utf8.{encode}
use Rattle.unicode_width.specs.Width.{char_width}
use Rattle.tv_cells.specs.Glyph.{Glyph, IsNarrow, is_narrow}
use Rattle.tv_terminal.specs.Written.{number_bytes, place_bytes, right_bytes, colour_bytes, one_colour_bytes, own_numbers, fixed_indices, own_parameter, front_of, back_of, front_bytes, back_bytes, going, colouring, recolouring, cell_bytes}
use Rattle.tv_terminal.specs.Terminal.{Display, Terminal, Own, Fixed, Numbers, Character, in_mode, ground, told, byte_told, cursor_placed, put, with_tile, is_decimal_digit, colour_set, colours_set, index_set, first_told, cell_number, moved_right}
use Rattle.tv_terminal.specs.declared.colour.Colours.{Colours}
use Rattle.tv_terminal.specs.declared.colour.Colours.TheVariants.{Sixteen, Indexed}
use Rattle.tv_terminal.specs.Displays.{Knows, drawn}

pub told-++ : (t : Terminal) (a b : List ℕ) → told t (a ++ b) ≡ told (told t a) b
told-++ t [] b = refl
told-++ t (c ∷ a) b = told-++ (byte_told t.mode c t.display) a b

digit : (k : ℕ) → k < 10 → is_decimal_digit (48 + k) ≡ true
digit k lt = grind (arith, nat_tests)

told-digit : (k last : ℕ) (is_first is_private : Bool) (before cs : List ℕ) (d : Display) → k < 10 → told (in_mode (Numbers is_first is_private last before) d) ((48 + k) ∷ cs) ≡ told (in_mode (Numbers false is_private (last * 10 + k) before) d) cs
told-digit k last is_first is_private before cs d lt =
    let e : 48 + k - 48 ≡ k = omega arith in
    rw (digit k lt, e) refl

-- a number
small-bytes : (n : ℕ) → n < 10 → number_bytes n ≡ (48 + n) ∷ []
small-bytes n lt = grind (arith, nat_tests)

two-bytes : (n : ℕ) → 10 ≤ n → n < 100 → number_bytes n ≡ (48 + n / 10) ∷ (48 + n % 10) ∷ []
two-bytes n ge lt = grind (arith, nat_tests)

three-bytes : (n : ℕ) → 100 ≤ n → number_bytes n ≡ (48 + n / 100) ∷ (48 + n / 10 % 10) ∷ (48 + n % 10) ∷ []
three-bytes n ge = grind (arith, nat_tests)

module _ (is_first is_private : Bool) (before : List ℕ) (d : Display) where
  abbrev at : ℕ → Terminal
  at n = in_mode (Numbers false is_private n before) d

  told-number : (n : ℕ) → n < 1000 → told (in_mode (Numbers is_first is_private 0 before) d) (number_bytes n) ≡ at n
  told-number n lt = elim (cases_lt n 10) [
    | inl few ↦
        let e : 0 + n ≡ n = omega arith in
        rw (small-bytes n few) (told-digit n 0 is_first is_private before [] d few ∙ ap at e)
    | inr more ↦ elim (cases_lt n 100) [
      | inl few ↦
          let e : (0 + n / 10) * 10 + n % 10 ≡ n = omega arith in
          rw (two-bytes n more few) (told-digit (n / 10) 0 is_first is_private before ((48 + n % 10) ∷ []) d (omega arith)
          ∙ told-digit (n % 10) (0 + n / 10) false is_private before [] d (omega arith) ∙ ap at e)
      | inr many ↦
          let e : ((0 + n / 100) * 10 + n / 10 % 10) * 10 + n % 10 ≡ n = omega arith in
          rw (three-bytes n many) (told-digit (n / 100) 0 is_first is_private before ((48 + n / 10 % 10) ∷ (48 + n % 10) ∷ []) d (omega arith)
          ∙ told-digit (n / 10 % 10) (0 + n / 100) false is_private before ((48 + n % 10) ∷ []) d (omega arith)
          ∙ told-digit (n % 10) ((0 + n / 100) * 10 + n / 10 % 10) false is_private before [] d (omega arith) ∙ ap at e)
    ]
  ]

-- the cursor's place
told-place : (column row : ℕ) (d : Display) → column < 999 → row < 999 → told (ground d) (place_bytes column row) ≡ ground (cursor_placed (row + 1) (column + 1) d)
told-place column row d across down =
    told-++ (ground d) (27 ∷ 91 ∷ number_bytes (row + 1) ++ 59 ∷ number_bytes (column + 1)) (72 ∷ [])
    ∙ ap (λ (t : Terminal). told t (72 ∷ [])) (
    told-++ (ground d) (27 ∷ 91 ∷ number_bytes (row + 1)) (59 ∷ number_bytes (column + 1))
    ∙ ap (λ (t : Terminal). told t (59 ∷ number_bytes (column + 1))) (told-number true false [] d (row + 1) (omega arith))
    ∙ told-number false false ((row + 1) ∷ []) d (column + 1) (omega arith))

-- what is so of each number below a bound, by computation
abbrev all_to : (n : ℕ) → (ℕ → Bool) → Bool
all_to zero p = true
all_to (suc n) p = p n && all_to n p

pub and-left : (a b : Bool) → a && b ≡ true → a ≡ true
and-left true b e = refl
and-left false b e = e

pub and-right : (a b : Bool) → a && b ≡ true → b ≡ true
and-right true b e = e
and-right false b e = absurd cc

all-at : (p : ℕ → Bool) (n k : ℕ) → all_to n p ≡ true → k < n → p k ≡ true
all-at p zero k e lt = absurd (omega arith)
all-at p (suc n) k e lt = elim (cases_lt k n) [
  | inl less ↦ all-at p n k (and-right (p n) (all_to n p) e) less
  | inr ge ↦ let same : n ≡ k = omega arith in rw same at (and-left (p n) (all_to n p) e)
]

below : (m n : ℕ) → nat_lt m n ≡ true → m < n
below m n e = grind (arith, nat_tests)

-- the tables: sixteen of the terminal's own, and sixteen of the fixed ones
own-few : (n : ℕ) → n < 16 → slice_index own_numbers n < 16
own-few n lt = below (slice_index own_numbers n) 16 (all-at (λ k. nat_lt (slice_index own_numbers k) 16) 16 n refl lt)

fixed-few : (n : ℕ) → n < 16 → slice_index fixed_indices n < 256
fixed-few n lt = below (slice_index fixed_indices n) 256 (all-at (λ k. nat_lt (slice_index fixed_indices k) 256) 16 n refl lt)

fixed-from : (n : ℕ) → n < 16 → 15 < slice_index fixed_indices n
fixed-from n lt = below 15 (slice_index fixed_indices n) (all-at (λ k. nat_lt 15 (slice_index fixed_indices k)) 16 n refl lt)

-- one of the terminal's own
own-front : (k : ℕ) (d : Display) → k < 16 → colour_set (own_parameter 30 k) d ≡ record d { front = Own k }
own-front k d lt = elim (cases_lt k 8) [
  | inl few ↦
      let is : own_parameter 30 k ≡ 30 + k = grind (arith, nat_tests) in
      let a : (30 + k == 0) ≡ false = grind (arith, nat_tests) in
      let b : nat_le 30 (30 + k) ≡ true = grind (arith, nat_tests) in
      let c : nat_le (30 + k) 37 ≡ true = grind (arith, nat_tests) in
      let e : 30 + k - 30 ≡ k = omega arith in
      rw (is, a, b, c, e) refl
  | inr many ↦
      let is : own_parameter 30 k ≡ 82 + k = grind (arith, nat_tests) in
      let a : (82 + k == 0) ≡ false = grind (arith, nat_tests) in
      let b : nat_le 30 (82 + k) ≡ true = grind (arith, nat_tests) in
      let c : nat_le (82 + k) 37 ≡ false = grind (arith, nat_tests) in
      let f : nat_le 90 (82 + k) ≡ true = grind (arith, nat_tests) in
      let g : nat_le (82 + k) 97 ≡ true = grind (arith, nat_tests) in
      let e : 82 + k - 82 ≡ k = omega arith in
      rw (is, a, b, c, f, g, e) refl
]

own-back : (k : ℕ) (d : Display) → k < 16 → colour_set (own_parameter 40 k) d ≡ record d { back = Own k }
own-back k d lt = elim (cases_lt k 8) [
  | inl few ↦
      let is : own_parameter 40 k ≡ 40 + k = grind (arith, nat_tests) in
      let a : (40 + k == 0) ≡ false = grind (arith, nat_tests) in
      let b : nat_le (40 + k) 37 ≡ false = grind (arith, nat_tests) in
      let c : nat_le 90 (40 + k) ≡ false = grind (arith, nat_tests) in
      let f : nat_le 40 (40 + k) ≡ true = grind (arith, nat_tests) in
      let g : nat_le (40 + k) 47 ≡ true = grind (arith, nat_tests) in
      let h : nat_le 30 (40 + k) ≡ true = grind (arith, nat_tests) in
      let e : 40 + k - 40 ≡ k = omega arith in
      rw (is, a, h, b, c, f, g, e) refl
  | inr many ↦
      let is : own_parameter 40 k ≡ 92 + k = grind (arith, nat_tests) in
      let a : (92 + k == 0) ≡ false = grind (arith, nat_tests) in
      let b : nat_le (92 + k) 37 ≡ false = grind (arith, nat_tests) in
      let h : nat_le 30 (92 + k) ≡ true = grind (arith, nat_tests) in
      let c : nat_le 90 (92 + k) ≡ true = grind (arith, nat_tests) in
      let i : nat_le (92 + k) 97 ≡ false = grind (arith, nat_tests) in
      let f : nat_le 40 (92 + k) ≡ true = grind (arith, nat_tests) in
      let j : nat_le (92 + k) 47 ≡ false = grind (arith, nat_tests) in
      let g : nat_le 100 (92 + k) ≡ true = grind (arith, nat_tests) in
      let l : nat_le (92 + k) 107 ≡ true = grind (arith, nat_tests) in
      let e : 92 + k - 92 ≡ k = omega arith in
      rw (is, a, h, b, c, i, f, j, g, l, e) refl
]

-- one of the fixed ones
fixed-front : (k : ℕ) (d : Display) → 15 < k → k < 256 → index_set 38 k d ≡ record d { front = Fixed k }
fixed-front k d ge lt =
    let a : nat_lt k 16 ≡ false = grind (arith, nat_tests) in
    let b : nat_lt 255 k ≡ false = grind (arith, nat_tests) in
    rw (a, b) refl

fixed-back : (k : ℕ) (d : Display) → 15 < k → k < 256 → index_set 48 k d ≡ record d { back = Fixed k }
fixed-back k d ge lt =
    let a : nat_lt k 16 ≡ false = grind (arith, nat_tests) in
    let b : nat_lt 255 k ≡ false = grind (arith, nat_tests) in
    rw (a, b) refl

-- what sets one of the sixteen, whatever the terminal was told before
parameter-few : (first k : ℕ) → first < 100 → k < 16 → own_parameter first k < 1000
parameter-few first k f lt = grind (arith, nat_tests)

told-own : (n : ℕ) (d : Display) → n < 1000 → told (ground d) (one_colour_bytes (number_bytes n)) ≡ ground (colour_set n d)
told-own n d few =
    told-++ (ground d) (27 ∷ 91 ∷ number_bytes n) (109 ∷ []) ∙ ap (λ (t : Terminal). told t (109 ∷ [])) (told-number true false [] d n few)

told-index : (layer k : ℕ) (d : Display) → layer < 1000 → k < 1000
    → told (ground d) (one_colour_bytes (number_bytes layer ++ 59 ∷ 53 ∷ 59 ∷ number_bytes k)) ≡ ground (colours_set (layer ∷ 5 ∷ k ∷ []) d)
told-index layer k d l few =
    told-++ (ground d) (27 ∷ 91 ∷ number_bytes layer ++ 59 ∷ 53 ∷ 59 ∷ number_bytes k) (109 ∷ [])
    ∙ ap (λ (t : Terminal). told t (109 ∷ [])) (
    told-++ (ground d) (27 ∷ 91 ∷ number_bytes layer) (59 ∷ 53 ∷ 59 ∷ number_bytes k)
    ∙ ap (λ (t : Terminal). told t (59 ∷ 53 ∷ 59 ∷ number_bytes k)) (told-number true false [] d layer l)
    ∙ told-number false false (5 ∷ layer ∷ []) d k few)

front-set : (colours : Colours) (attr : ℕ) (d : Display) → told (ground d) (one_colour_bytes (front_bytes colours attr)) ≡ ground (record d { front = front_of colours attr })
front-set Sixteen attr d =
    let few = own-few (attr % 16) (omega arith) in
    told-own (own_parameter 30 (slice_index own_numbers (attr % 16))) d (parameter-few 30 _ (omega arith) few)
    ∙ ap ground (own-front (slice_index own_numbers (attr % 16)) d few)
front-set Indexed attr d =
    let few = fixed-few (attr % 16) (omega arith) in
    told-index 38 (slice_index fixed_indices (attr % 16)) d (omega arith) (omega (arith, few))
    ∙ ap ground (fixed-front (slice_index fixed_indices (attr % 16)) d (fixed-from (attr % 16) (omega arith)) few)

back-set : (colours : Colours) (attr : ℕ) (d : Display) → attr < 256 → told (ground d) (one_colour_bytes (back_bytes colours attr)) ≡ ground (record d { back = back_of colours attr })
back-set Sixteen attr d lt =
    let few = own-few (attr / 16) (omega arith) in
    told-own (own_parameter 40 (slice_index own_numbers (attr / 16))) d (parameter-few 40 _ (omega arith) few)
    ∙ ap ground (own-back (slice_index own_numbers (attr / 16)) d few)
back-set Indexed attr d lt =
    let few = fixed-few (attr / 16) (omega arith) in
    told-index 48 (slice_index fixed_indices (attr / 16)) d (omega arith) (omega (arith, few))
    ∙ ap ground (fixed-back (slice_index fixed_indices (attr / 16)) d (fixed-from (attr / 16) (omega arith)) few)

-- the colours of an attribute
abbrev with_colours : Colours → (attr : ℕ) → Display → Display
with_colours colours attr d = record d { front = front_of colours attr; back = back_of colours attr }

told-both : (front back : ℕ) (d : Display) → front < 1000 → back < 1000 → told (ground d) (27 ∷ 91 ∷ number_bytes front ++ 59 ∷ number_bytes back ++ 109 ∷ []) ≡ ground (colour_set back (colour_set front d))
told-both front back d f b =
    told-++ (ground d) (27 ∷ 91 ∷ number_bytes front ++ 59 ∷ number_bytes back) (109 ∷ [])
    ∙ ap (λ (t : Terminal). told t (109 ∷ [])) (
    told-++ (ground d) (27 ∷ 91 ∷ number_bytes front) (59 ∷ number_bytes back)
    ∙ ap (λ (t : Terminal). told t (59 ∷ number_bytes back)) (told-number true false [] d front f)
    ∙ told-number false false (front ∷ []) d back b)

-- 38 ; 5 ; front ; 48 ; 5 ; back
told-indices : (front back : ℕ) (d : Display) → front < 1000 → back < 1000
    → told (ground d) (27 ∷ 91 ∷ 51 ∷ 56 ∷ 59 ∷ 53 ∷ 59 ∷ number_bytes front ++ 59 ∷ 52 ∷ 56 ∷ 59 ∷ 53 ∷ 59 ∷ number_bytes back ++ 109 ∷ []) ≡ ground (index_set 48 back (index_set 38 front d))
told-indices front back d f b =
    told-++ (ground d) (27 ∷ 91 ∷ 51 ∷ 56 ∷ 59 ∷ 53 ∷ 59 ∷ number_bytes front ++ 59 ∷ 52 ∷ 56 ∷ 59 ∷ 53 ∷ 59 ∷ number_bytes back) (109 ∷ [])
    ∙ ap (λ (t : Terminal). told t (109 ∷ [])) (
    told-++ (ground d) (27 ∷ 91 ∷ 51 ∷ 56 ∷ 59 ∷ 53 ∷ 59 ∷ number_bytes front) (59 ∷ 52 ∷ 56 ∷ 59 ∷ 53 ∷ 59 ∷ number_bytes back)
    ∙ ap (λ (t : Terminal). told t (59 ∷ 52 ∷ 56 ∷ 59 ∷ 53 ∷ 59 ∷ number_bytes back)) (told-number false false (5 ∷ 38 ∷ []) d front f)
    ∙ told-number false false (5 ∷ 48 ∷ front ∷ 5 ∷ 38 ∷ []) d back b)

told-colours : (colours : Colours) (attr : ℕ) (d : Display) → attr < 256 → told (ground d) (colour_bytes colours attr) ≡ ground (with_colours colours attr d)
told-colours Sixteen attr d lt =
    let front = slice_index own_numbers (attr % 16) in
    let back = slice_index own_numbers (attr / 16) in
    let f = own-few (attr % 16) (omega arith) in
    let b = own-few (attr / 16) (omega arith) in
    told-both (own_parameter 30 front) (own_parameter 40 back) d (parameter-few 30 front (omega arith) f) (parameter-few 40 back (omega arith) b)
    ∙ ap (λ (e : Display). ground (colour_set (own_parameter 40 back) e)) (own-front front d f)
    ∙ ap ground (own-back back (record d { front = Own front }) b)
told-colours Indexed attr d lt =
    let front = slice_index fixed_indices (attr % 16) in
    let back = slice_index fixed_indices (attr / 16) in
    let f = fixed-few (attr % 16) (omega arith) in
    let b = fixed-few (attr / 16) (omega arith) in
    told-indices front back d (omega (arith, f)) (omega (arith, b))
    ∙ ap (λ (e : Display). ground (index_set 48 back e)) (fixed-front front d (fixed-from (attr % 16) (omega arith)) f)
    ∙ ap ground (fixed-back back (record d { front = Fixed front }) (fixed-from (attr / 16) (omega arith)) b)

-- ---- characters

lead-two : (k : ℕ) (d : Display) → k < 32 → first_told (192 + k) d ≡ in_mode (Character 128 0 k) d
lead-two k d lt =
    let a : (192 + k == 27) ≡ false = grind (arith, nat_tests) in
    let b : nat_lt (192 + k) 128 ≡ false = grind (arith, nat_tests) in
    let c : nat_lt (192 + k) 192 ≡ false = grind (arith, nat_tests) in
    let e : nat_lt (192 + k) 224 ≡ true = grind (arith, nat_tests) in
    let f : 192 + k - 192 ≡ k = omega arith in
    rw (a, b, c, e, f) refl

lead-three : (k : ℕ) (d : Display) → k < 16 → first_told (224 + k) d ≡ in_mode (Character 2048 1 k) d
lead-three k d lt =
    let a : (224 + k == 27) ≡ false = grind (arith, nat_tests) in
    let b : nat_lt (224 + k) 128 ≡ false = grind (arith, nat_tests) in
    let c : nat_lt (224 + k) 192 ≡ false = grind (arith, nat_tests) in
    let e : nat_lt (224 + k) 224 ≡ false = grind (arith, nat_tests) in
    let g : nat_lt (224 + k) 240 ≡ true = grind (arith, nat_tests) in
    let f : 224 + k - 224 ≡ k = omega arith in
    rw (a, b, c, e, g, f) refl

lead-four : (k : ℕ) (d : Display) → k < 8 → first_told (240 + k) d ≡ in_mode (Character 65536 2 k) d
lead-four k d lt =
    let a : (240 + k == 27) ≡ false = grind (arith, nat_tests) in
    let b : nat_lt (240 + k) 128 ≡ false = grind (arith, nat_tests) in
    let c : nat_lt (240 + k) 192 ≡ false = grind (arith, nat_tests) in
    let e : nat_lt (240 + k) 224 ≡ false = grind (arith, nat_tests) in
    let g : nat_lt (240 + k) 240 ≡ false = grind (arith, nat_tests) in
    let h : nat_lt (240 + k) 248 ≡ true = grind (arith, nat_tests) in
    let f : 240 + k - 240 ≡ k = omega arith in
    rw (a, b, c, e, g, h, f) refl

module _ (k least part : ℕ) (d : Display) (lt : k < 64) where
  from : nat_le 128 (128 + k) ≡ true
  from = grind (arith, nat_tests)

  to : nat_lt (128 + k) 192 ≡ true
  to = grind (arith, nat_tests)

  same : 128 + k - 128 ≡ k
  same = omega arith

  told-last : least ≤ part * 64 + k → told (in_mode (Character least 0 part) d) ((128 + k) ∷ []) ≡ ground (put (part * 64 + k) d)
  told-last ge =
      let long : nat_le least (part * 64 + k) ≡ true = grind (arith, nat_tests, ge) in
      rw (from, to, same, long) refl

  told-next : (more : ℕ) (cs : List ℕ) → told (in_mode (Character least (more + 1) part) d) ((128 + k) ∷ cs) ≡ told (in_mode (Character least more (part * 64 + k)) d) cs
  told-next more cs =
      let some : (more + 1 == 0) ≡ false = grind (arith, nat_tests) in
      let less : more + 1 - 1 ≡ more = omega arith in
      rw (from, to, same, some, less) refl

-- neither ESC nor BEL
pub record IsPlain (c : ℕ) : Type 0 where
  no_escape : c ≡ 27 → ⊥
  no_bell : c ≡ 7 → ⊥

told-one : (c : ℕ) (d : Display) → c < 128 → IsPlain c → told (ground d) (encode_utf8 c) ≡ ground (put c d)
told-one c d lt plain =
    let a : (c == 27) ≡ false = ne_eqb c 27 plain.no_escape in
    let b : nat_lt c 128 ≡ true = grind (arith, nat_tests) in
    let e : (c == 7) ≡ false = ne_eqb c 7 plain.no_bell in
    rw (encode_ascii c lt, a, b, e) refl

encode-two : (c : ℕ) → 128 ≤ c → c < 2048 → encode_utf8 c ≡ (192 + c / 64) ∷ (128 + c % 64) ∷ []
unfolding encode
encode-two c ge lt =
    let a : nat_lt c 128 ≡ false = grind (arith, nat_tests) in
    let b : nat_lt c 2048 ≡ true = grind (arith, nat_tests) in
    rw (a, b) refl

encode-three : (c : ℕ) → 2048 ≤ c → c < 65536 → encode_utf8 c ≡ (224 + c / 4096) ∷ (128 + c / 64 % 64) ∷ (128 + c % 64) ∷ []
unfolding encode
encode-three c ge lt =
    let a : nat_lt c 128 ≡ false = grind (arith, nat_tests) in
    let b : nat_lt c 2048 ≡ false = grind (arith, nat_tests) in
    let e : nat_lt c 65536 ≡ true = grind (arith, nat_tests) in
    rw (a, b, e) refl

encode-four : (c : ℕ) → 65536 ≤ c → encode_utf8 c ≡ (240 + c / 262144) ∷ (128 + c / 4096 % 64) ∷ (128 + c / 64 % 64) ∷ (128 + c % 64) ∷ []
unfolding encode
encode-four c ge =
    let a : nat_lt c 128 ≡ false = grind (arith, nat_tests) in
    let b : nat_lt c 2048 ≡ false = grind (arith, nat_tests) in
    let e : nat_lt c 65536 ≡ false = grind (arith, nat_tests) in
    rw (a, b, e) refl

told-two : (c : ℕ) (d : Display) → 128 ≤ c → c < 2048 → told (ground d) (encode_utf8 c) ≡ ground (put c d)
told-two c d ge lt =
    let e : c / 64 * 64 + c % 64 ≡ c = omega arith in
    ap (told (ground d)) (encode-two c ge lt)
    ∙ ap (λ (t : Terminal). told t ((128 + c % 64) ∷ [])) (lead-two (c / 64) d (omega arith))
    ∙ told-last (c % 64) 128 (c / 64) d (omega arith) (omega (arith, e, ge))
    ∙ ap (λ (n : ℕ). ground (put n d)) e

told-three : (c : ℕ) (d : Display) → 2048 ≤ c → c < 65536 → told (ground d) (encode_utf8 c) ≡ ground (put c d)
told-three c d ge lt =
    let e : (c / 4096 * 64 + c / 64 % 64) * 64 + c % 64 ≡ c = omega arith in
    ap (told (ground d)) (encode-three c ge lt)
    ∙ ap (λ (t : Terminal). told t ((128 + c / 64 % 64) ∷ (128 + c % 64) ∷ [])) (lead-three (c / 4096) d (omega arith))
    ∙ told-next (c / 64 % 64) 2048 (c / 4096) d (omega arith) 0 ((128 + c % 64) ∷ [])
    ∙ told-last (c % 64) 2048 (c / 4096 * 64 + c / 64 % 64) d (omega arith) (omega (arith, e, ge))
    ∙ ap (λ (n : ℕ). ground (put n d)) e

told-four : (c : ℕ) (d : Display) → 65536 ≤ c → c < 1114112 → told (ground d) (encode_utf8 c) ≡ ground (put c d)
told-four c d ge lt =
    let e : ((c / 262144 * 64 + c / 4096 % 64) * 64 + c / 64 % 64) * 64 + c % 64 ≡ c = omega arith in
    ap (told (ground d)) (encode-four c ge)
    ∙ ap (λ (t : Terminal). told t ((128 + c / 4096 % 64) ∷ (128 + c / 64 % 64) ∷ (128 + c % 64) ∷ [])) (lead-four (c / 262144) d (omega arith))
    ∙ told-next (c / 4096 % 64) 65536 (c / 262144) d (omega arith) 1 ((128 + c / 64 % 64) ∷ (128 + c % 64) ∷ [])
    ∙ told-next (c / 64 % 64) 65536 (c / 262144 * 64 + c / 4096 % 64) d (omega arith) 0 ((128 + c % 64) ∷ [])
    ∙ told-last (c % 64) 65536 ((c / 262144 * 64 + c / 4096 % 64) * 64 + c / 64 % 64) d (omega arith) (omega (arith, e, ge))
    ∙ ap (λ (n : ℕ). ground (put n d)) e

pub told-char : (c : ℕ) (d : Display) → c < 1114112 → IsPlain c → told (ground d) (encode_utf8 c) ≡ ground (put c d)
told-char c d few plain = elim (cases_lt c 128) [
  | inl lt ↦ told-one c d lt plain
  | inr ge ↦ elim (cases_lt c 2048) [
    | inl lt ↦ told-two c d ge lt
    | inr more ↦ elim (cases_lt c 65536) [
      | inl lt ↦ told-three c d more lt
      | inr most ↦ told-four c d most few
    ]
  ]
]

-- ---- cells

pub eq-true : (m n : ℕ) → m ≡ n → (m == n) ≡ true
eq-true m n e = grind (arith, nat_tests)

pub from-eq : (m n : ℕ) → (m == n) ≡ true → m ≡ n
from-eq m n e = grind (arith, nat_tests)

-- a character of one column is none that a terminal takes for a sequence
no-escape : (c : ℕ) → IsNarrow c → c ≡ 27 → ⊥
unfolding char_width
no-escape c narrow e = let h : char_width false 27 ≡ Some 1 = rw e at narrow in absurd cc

no-bell : (c : ℕ) → IsNarrow c → c ≡ 7 → ⊥
unfolding char_width
no-bell c narrow e = let h : char_width false 7 ≡ Some 1 = rw e at narrow in absurd cc

pub narrow-plain : (c : ℕ) → IsNarrow c → IsPlain c
narrow-plain c narrow = record { no_escape = no-escape c narrow; no_bell = no-bell c narrow }

narrow-test : (c : ℕ) → IsNarrow c → is_narrow c ≡ true
narrow-test c narrow = ap (λ (w : Option ℕ). unwrap_or w 0 == 1) narrow

-- a place below a count is found by its number
place-found : (count n : ℕ) → n < count → cell_number count (n + 1) ≡ n
place-found count n lt =
    let a : nat_le (n + 1) count ≡ true = grind (arith, nat_tests) in
    let b : n + 1 - 1 ≡ n = omega arith in
    rw (a, b) refl

abbrev pub moved : (column row : ℕ) → Display → Display
moved column row d = record d { column = column; row = row }

pub told-going-anew : (column row : ℕ) (d : Display) → column < d.columns → row < d.rows → column < 999 → row < 999 → told (ground d) (place_bytes column row) ≡ ground (moved column row d)
told-going-anew column row d across down small few =
    told-place column row d small few ∙ rw (place-found d.columns column across, place-found d.rows row down) refl

-- so many columns to the right
told-right : (n : ℕ) (d : Display) → n < 1000 → told (ground d) (right_bytes n) ≡ ground (moved_right n d)
told-right n d few =
    told-++ (ground d) (27 ∷ 91 ∷ number_bytes n) (67 ∷ []) ∙ ap (λ (t : Terminal). told t (67 ∷ [])) (told-number true false [] d n few)

told-going-right : (column row : ℕ) (d : Display) → d.column < column → d.row ≡ row → column < d.columns → column < 999 → told (ground d) (right_bytes (column - d.column)) ≡ ground (moved column row d)
told-going-right column row d less same across small =
    let there : min (d.column + max (column - d.column) 1) (d.columns - 1) ≡ column = grind (arith, less, across) in
    told-right (column - d.column) d (omega (arith, small)) ∙ rw (there, ← same) refl

told-going-by : (is_there is_left : Bool) (p : ℕ × ℕ) (column row : ℕ) (d : Display) → (d.column ≡ p.0) × (d.row ≡ p.1)
    → (is_there ≡ true → (p.0 ≡ column) × (p.1 ≡ row)) → (is_left ≡ true → (p.0 < column) × (p.1 ≡ row))
    → column < d.columns → row < d.rows → column < 999 → row < 999
    → told (ground d) (if is_there then [] else if is_left then right_bytes (column - p.0) else place_bytes column row) ≡ ground (moved column row d)
told-going-by true is_left p column row d is there left across down small few =
    let at = there refl in
    rw (← at.0, ← at.1, ← is.0, ← is.1) refl
told-going-by false true p column row d is there left across down small few =
    let at = left refl in
    ap (λ (n : ℕ). told (ground d) (right_bytes (column - n))) (sym is.0)
    ∙ told-going-right column row d (omega (arith, is.0, at.0)) (is.1 ∙ at.1) across small
told-going-by false false p column row d is there left across down small few = told-going-anew column row d across down small few

below-test : (m n : ℕ) → nat_lt m n ≡ true → m < n
below-test m n e = grind (arith, nat_tests)

pub told-going : (place : Option (ℕ × ℕ)) (column row : ℕ) (d : Display) → IfSome place (λ p. (d.column ≡ p.0) × (d.row ≡ p.1)) → column < d.columns → row < d.rows → column < 999 → row < 999
    → told (ground d) (going place column row) ≡ ground (moved column row d)
told-going None column row d is across down small few = told-going-anew column row d across down small few
told-going (Some p) column row d is across down small few =
    told-going-by ((p.0 == column) && (p.1 == row)) (nat_lt p.0 column && (p.1 == row)) p column row d is
    (λ e. (from-eq p.0 column (and-left _ _ e), from-eq p.1 row (and-right (p.0 == column) _ e)))
    (λ e. (below-test p.0 column (and-left _ _ e), from-eq p.1 row (and-right (nat_lt p.0 column) _ e)))
    across down small few

-- what differs of two attributes' colours
told-recolouring : (colours : Colours) (is_front is_back : Bool) (set attr : ℕ) (d : Display) → (d.front ≡ front_of colours set) × (d.back ≡ back_of colours set)
    → (is_front ≡ true → set % 16 ≡ attr % 16) → (is_back ≡ true → set / 16 ≡ attr / 16) → attr < 256
    → told (ground d) (recolouring colours attr is_front is_back) ≡ ground (with_colours colours attr d)
told-recolouring colours true true set attr d is front back lt = rw (← front refl, ← back refl, ← is.0, ← is.1) refl
told-recolouring colours true false set attr d is front back lt = back-set colours attr d lt ∙ rw (← front refl, ← is.0) refl
told-recolouring colours false true set attr d is front back lt = front-set colours attr d ∙ rw (← back refl, ← is.1) refl
told-recolouring colours false false set attr d is front back lt = told-colours colours attr d lt

told-colouring : (colours : Colours) (set : Option ℕ) (attr : ℕ) (d : Display) → IfSome set (λ a. (d.front ≡ front_of colours a) × (d.back ≡ back_of colours a)) → attr < 256
    → told (ground d) (colouring colours set attr) ≡ ground (with_colours colours attr d)
told-colouring colours None attr d is lt = told-colours colours attr d lt
told-colouring colours (Some a) attr d is lt =
    told-recolouring colours (a % 16 == attr % 16) (a / 16 == attr / 16) a attr d is
    (from-eq (a % 16) (attr % 16)) (from-eq (a / 16) (attr / 16)) lt

pub put-within : (ch : ℕ) (d : Display) → IsNarrow ch → d.column < d.columns → put ch d ≡ record d {
  cells = with_tile d.cells d.column d.row (record { ch = ch; front = d.front; back = d.back });
  column = d.column + 1;
}
put-within ch d narrow lt =
    let a : nat_lt d.column d.columns ≡ true = grind (arith, nat_tests) in
    rw (narrow-test ch narrow, a) refl

-- whatever was known of the cursor and the colours, the cell shows
pub told-cell : (colours : Colours) (place : Option (ℕ × ℕ)) (attr : Option ℕ) (column row : ℕ) (g : Glyph) (d : Display) → Knows colours place attr d → IsNarrow g.ch → g.ch < 1114112 → g.attr < 256
    → column < d.columns → row < d.rows → column < 999 → row < 999 → told (ground d) (cell_bytes colours place attr column row g) ≡ ground (drawn colours column row g d)
told-cell colours place attr column row g d knows narrow scalar shade across down small few =
    told-++ (ground d) (going place column row ++ colouring colours attr g.attr) (encode_utf8 g.ch)
    ∙ ap (λ (t : Terminal). told t (encode_utf8 g.ch)) (
    told-++ (ground d) (going place column row) (colouring colours attr g.attr)
    ∙ ap (λ (t : Terminal). told t (colouring colours attr g.attr)) (told-going place column row d knows.stands across down small few)
    ∙ told-colouring colours attr g.attr (moved column row d) knows.writes shade)
    ∙ told-char g.ch (with_colours colours g.attr (moved column row d)) scalar (narrow-plain g.ch narrow)
    ∙ ap ground (put-within g.ch (with_colours colours g.attr (moved column row d)) narrow across)
