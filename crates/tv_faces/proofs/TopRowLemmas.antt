-- What is written over the first row of a frame.
use Rattle.std.proofs.Common.{◌≡◌, ◌≢◌, ◌∙◌, ℕ, suc, ◌+◌, ◌-◌, ◌/◌, ◌<◌, ◌≤◌, nat_le, nat_lt, Bool, true, false, List, [], ◌∷◌, length, slice_index_or, refl, arith, inl, inr}
use Rattle.std.specs.Prelude.{codes}
use Rattle.std.proofs.lemmas.Bool.{cases_lt}
use Rattle.std.proofs.lemmas.Bool.Decides.{nat_tests}
use Rattle.std.proofs.lemmas.List.{get_or_past}
use Rattle.tv_cells.specs.Glyph.{Glyph, blank, shown}
use Rattle.tv_cells.specs.Row.{IsRow}
use Rattle.tv_model.specs.Screen.Faces.{Row, over_row, text_row, titled, with_close_mark}

-- ---- columns of a row over another row

over_in : (from count : ℕ) (row below : Row) (x : ℕ) → from ≤ x → x < from + count → over_row from count row below x ≡ row (x - from)
over_in from count row below x ge lt =
    let e : nat_le from x ≡ true = grind (arith, nat_tests, ge) in
    let f : nat_lt x (from + count) ≡ true = grind (arith, nat_tests, lt) in
    rw (e, f) refl

over_before : (from count : ℕ) (row below : Row) (x : ℕ) → x < from → over_row from count row below x ≡ below x
over_before from count row below x lt = let e : nat_le from x ≡ false = grind (arith, nat_tests, lt) in rw e refl

over_after : (from count : ℕ) (row below : Row) (x : ℕ) → from + count ≤ x → over_row from count row below x ≡ below x
over_after from count row below x ge =
    let e : nat_le from x ≡ true = grind (arith, nat_tests, ge) in
    let f : nat_lt x (from + count) ≡ false = grind (arith, nat_tests, ge) in
    rw (e, f) refl

-- ---- cells that are written over cells from a column on

-- columns of a row, written over another row
pub over_written : (start count from attr : ℕ) (row below : Row) (old new : List Glyph) → length new ≡ length old
    → ((i : ℕ) → i < length new → start ≤ from + i → from + i < start + count → slice_index_or new i blank ≡ shown (row (from + i - start)) attr)
    → ((i : ℕ) → i < length new → from + i < start → slice_index_or new i blank ≡ slice_index_or old i blank)
    → ((i : ℕ) → i < length new → start + count ≤ from + i → slice_index_or new i blank ≡ slice_index_or old i blank)
    → IsRow (λ x. shown (below x) attr) from old → IsRow (λ x. shown (over_row start count row below x) attr) from new
over_written start count from attr row below old new same written before after was = record {
  each = λ i lt.
      let kept = was.each i (omega (arith, lt, same)) in
      elim (cases_lt (from + i) start) [
        | inl less ↦ before i lt less ∙ (kept ∙ rw (over_before start count row below (from + i) less) refl)
        | inr ge ↦ elim (cases_lt (from + i) (start + count)) [
          | inl less ↦ written i lt ge less ∙ rw (over_in start count row below (from + i) ge less) refl
          | inr past ↦ after i lt past ∙ (kept ∙ rw (over_after start count row below (from + i) past) refl)
        ]
      ];
}

-- a text in the middle, between two spaces
space_first : (title : List ℕ) (x start : ℕ) → x ≡ start → text_row (32 ∷ title) (x - start) ≡ 32
space_first title x start e = let none : x - start ≡ 0 = omega arith in rw none refl

title_next : (title : List ℕ) (x start : ℕ) → start + 1 ≤ x → text_row (32 ∷ title) (x - start) ≡ slice_index_or title (x - (start + 1)) 32
title_next title x start ge = let more : x - start ≡ suc (x - (start + 1)) = omega arith in rw more refl

-- a space, a text and a space, written over a row one after the other
pub title_written : (title : List ℕ) (start from attr : ℕ) (below : Row) (old first mid new : List Glyph)
    → length first ≡ length old → length mid ≡ length first → length new ≡ length mid
    → ((i : ℕ) → i < length first → from + i ≡ start → slice_index_or first i blank ≡ shown 32 attr)
    → ((i : ℕ) → i < length first → from + i ≢ start → slice_index_or first i blank ≡ slice_index_or old i blank)
    → ((i : ℕ) → i < length mid → start + 1 ≤ from + i → from + i < start + 1 + length title → slice_index_or mid i blank ≡ shown (slice_index_or title (from + i - (start + 1)) 32) attr)
    → ((i : ℕ) → i < length mid → from + i < start + 1 → slice_index_or mid i blank ≡ slice_index_or first i blank)
    → ((i : ℕ) → i < length mid → start + 1 + length title ≤ from + i → slice_index_or mid i blank ≡ slice_index_or first i blank)
    → ((i : ℕ) → i < length new → from + i ≡ start + 1 + length title → slice_index_or new i blank ≡ shown 32 attr)
    → ((i : ℕ) → i < length new → from + i ≢ start + 1 + length title → slice_index_or new i blank ≡ slice_index_or mid i blank)
    → IsRow (λ x. shown (below x) attr) from old → IsRow (λ x. shown (over_row start (length title + 2) (text_row (32 ∷ title)) below x) attr) from new
title_written title start from attr below old first mid new a b d put_first kept_first written before after put_last kept_last was =
    over_written start (length title + 2) from attr (text_row (32 ∷ title)) below old new (d ∙ b ∙ a)
    (λ i lt ge less. elim (cases_lt (from + i) (start + 1)) [
      | inl at ↦
          let here : from + i ≡ start = omega (arith, ge, at) in
          kept_last i lt (λ e. omega (arith, e, at)) ∙ (before i (omega (arith, lt, d)) at
          ∙ (put_first i (omega (arith, lt, d, b)) here ∙ rw (space_first title (from + i) start here) refl))
      | inr past ↦ elim (cases_lt (from + i) (start + 1 + length title)) [
        | inl inside ↦
            kept_last i lt (λ e. omega (arith, e, inside)) ∙ (written i (omega (arith, lt, d)) past inside ∙ rw (title_next title (from + i) start past) refl)
        | inr end ↦
            let here : from + i ≡ start + 1 + length title = omega (arith, end, less) in
            let out : slice_index_or title (from + i - (start + 1)) 32 ≡ 32 = get_or_past title (from + i - (start + 1)) 32 (omega (arith, end)) in
            put_last i lt here ∙ rw (title_next title (from + i) start past, out) refl
      ]
    ])
    (λ i lt less.
    kept_last i lt (λ e. omega (arith, e, less)) ∙ (before i (omega (arith, lt, d)) (omega (arith, less)) ∙ kept_first i (omega (arith, lt, d, b)) (λ e. omega (arith, e, less))))
    (λ i lt past.
    kept_last i lt (λ e. omega (arith, e, past)) ∙ (after i (omega (arith, lt, d)) (omega (arith, past)) ∙ kept_first i (omega (arith, lt, d, b)) (λ e. omega (arith, e, past))))
    was

-- where there is a title
pub some_title : (w : ℕ) (title : List ℕ) (attr from : ℕ) (below : Row) (cells : List Glyph) → (length title ≡ 0 → ⊥) → IsRow (λ x. shown (over_row ((w - (length title + 2)) / 2) (length title + 2) (text_row (32 ∷ title)) below x) attr) from cells → IsRow (λ x. shown (titled w title below x) attr) from cells
some_title w [] attr from below cells some was = absurd (some refl)
some_title w (ch ∷ chars) attr from below cells some was = was

-- ---- the close mark

pub with_mark : (b : Bool) (below : Row) (attr from : ℕ) (cells : List Glyph) → b ≡ true
    → IsRow (λ x. shown (over_row 2 3 (text_row (codes "[x]")) below x) attr) from cells → IsRow (λ x. shown (with_close_mark b below x) attr) from cells
with_mark true below attr from cells e was = was
with_mark false below attr from cells e was = absurd cc

pub without_mark : (b : Bool) (below : Row) (attr from : ℕ) (cells : List Glyph) → b ≡ false
    → IsRow (λ x. shown (below x) attr) from cells → IsRow (λ x. shown (with_close_mark b below x) attr) from cells
without_mark true below attr from cells e was = absurd cc
without_mark false below attr from cells e was = was
