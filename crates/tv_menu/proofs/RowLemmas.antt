-- Rows of cells into which texts are written.
use Rattle.std.proofs.Common.{◌≡◌, ◌≤◌, ◌<◌, ◌+◌, ◌-◌, ◌∙◌, if◌then◌else◌, ℕ, true, false, List, [], ◌∷◌, Some, None, length, slice_index_or, nat_lt, ap, refl, subst, sym, arith}
use Rattle.std.proofs.lemmas.Bool.Decides.{nat_tests}
use Rattle.std.proofs.lemmas.List.{get_or_default}
use Rattle.tv_cells.specs.Glyph.{Glyph, blank}
use Rattle.tv_cells.specs.Row.{IsRow}
use Rattle.tv_machine.specs.Screen.Bars.{Spot, columns_of, spot_in}
use Rattle.tv_machine.proofs.ListLemmas.{bool_cases}
use Rattle.tv_menu.specs.Cells.{ChangesRow, over_columns, over_spot}

lt_true : (a b : ℕ) → a < b → nat_lt a b ≡ true
lt_true a b h = grind (arith, nat_tests)

lt_false : (a b : ℕ) → b ≤ a → nat_lt a b ≡ false
lt_false a b h = grind (arith, nat_tests)

true_lt : (a b : ℕ) → nat_lt a b ≡ true → a < b
true_lt a b h = grind (arith, nat_tests)

-- ---- a row that is written cell by cell

-- the cells below a place have become f of what they were, and the others are as they were
pub record IsWritten (f : ℕ → Glyph → Glyph) (from : ℕ) (old now : List Glyph) (place : ℕ) : Type 0 where
  pub count : length now ≡ length old
  pub done : (k : ℕ) → k < place → k < length old → slice_index_or now k blank ≡ f (from + k) (slice_index_or old k blank)
  pub left : (k : ℕ) → place ≤ k → slice_index_or now k blank ≡ slice_index_or old k blank

-- ---- rows of spots

module _ {Entry : Type 0} (text : Entry → List ℕ) (cell : Spot Entry → Glyph) where
  -- what is written of entries, the first of which has a place and begins in a column
  abbrev pub spots_over : ℕ → ℕ → List Entry → ℕ → Glyph → Glyph
  spots_over place first entries column = over_spot cell (spot_in text place first entries column)

  none_before : (place first : ℕ) (entries : List Entry) (column : ℕ) → nat_lt column first ≡ true → spot_in text place first entries column ≡ None
  none_before place first [] column h = refl
  none_before place first (entry ∷ entries) column h = rw h refl

  module _ (place first : ℕ) (entry : Entry) (others : List Entry) (shows : ℕ → Glyph) (same : (column : ℕ) → shows column ≡ cell (record { entry = entry; place = place; column = column })) where
    abbrev count : ℕ
    count = columns_of (text entry)

    next_cell : (column : ℕ) (old mid new : Glyph) → mid ≡ over_columns first count shows column old → new ≡ spots_over (place + 1) (first + count) others column mid
        → new ≡ spots_over place first (entry ∷ others) column old
    next_cell column old mid new first-is next-is =
        bool_cases (nat_lt column first)
        (λ b. mid ≡ (if b then old else if nat_lt column (first + count) then shows (column - first) else old)
        → new ≡ over_spot cell (if b then None else if nat_lt column (first + count) then Some (record { entry = entry; place = place; column = column - first }) else spot_in text (place + 1) (first + count) others column) old)
        (λ before is. later (lt_true column (first + count) (let lt = true_lt column first before in omega (arith, lt))) ∙ is)
        (λ behind. bool_cases (nat_lt column (first + count))
        (λ b. mid ≡ (if b then shows (column - first) else old)
        → new ≡ over_spot cell (if b then Some (record { entry = entry; place = place; column = column - first }) else spot_in text (place + 1) (first + count) others column) old)
        (λ inside is. later inside ∙ (is ∙ same (column - first)))
        (λ outside is. next-is ∙ ap (over_spot cell (spot_in text (place + 1) (first + count) others column)) is))
        first-is
      where
        later : nat_lt column (first + count) ≡ true → new ≡ mid
        later inside = next-is ∙ ap (λ spot. over_spot cell spot mid) (none_before (place + 1) (first + count) others column inside)

    pub spots_next : (from : ℕ) (old mid new : List Glyph) → ChangesRow (over_columns first count shows) from old mid → ChangesRow (spots_over (place + 1) (first + count) others) from mid new
        → ChangesRow (spots_over place first (entry ∷ others)) from old new
    spots_next from old mid new p q = record {
      count = q.count ∙ p.count;
      each = λ i on. next_cell (from + i) (slice_index_or old i blank) (slice_index_or mid i blank) (slice_index_or new i blank) (p.each i (omega (arith, q.count))) (q.each i on);
    }

  -- the first of the entries is written, and then the others
  pub spots_written : (place first from columns : ℕ) (entries others : List Entry) (entry : Entry) (shows : ℕ → Glyph) (old mid new : List Glyph) → entries ≡ entry ∷ others
      → columns ≡ columns_of (text entry) → ((column : ℕ) → shows column ≡ cell (record { entry = entry; place = place; column = column }))
      → ChangesRow (over_columns first columns shows) from old mid → ChangesRow (spots_over (place + 1) (first + columns) others) from mid new
      → ChangesRow (spots_over place first entries) from old new
  spots_written place first from columns entries others entry shows old mid new is wide same p q =
      subst (λ all. ChangesRow (spots_over place first all) from old new) (sym is)
      (spots_next place first entry others shows same from old mid new
      (subst (λ n. ChangesRow (over_columns first n shows) from old mid) wide p)
      (subst (λ n. ChangesRow (spots_over (place + 1) (first + n) others) from mid new) wide q))

-- ---- a row that was filled before

pub row_over : (f : ℕ → Glyph → Glyph) (face : ℕ → Glyph) (under : Glyph) (from : ℕ) (filled new : List Glyph)
    → ((i : ℕ) → i < length filled → slice_index_or filled i blank ≡ under) → ChangesRow f from filled new → ((column : ℕ) → f column under ≡ face column) → IsRow face from new
row_over f face under from filled new same p is = record {
  each = λ i on. let within : i < length filled = omega (arith, p.count) in p.each i on ∙ (ap (f (from + i)) (same i within) ∙ is (from + i));
}

-- the only cell of a row
pub one_cell : (row : ℕ → Glyph) (from : ℕ) (cells : List Glyph) (other : Glyph) → 0 < length cells → IsRow row from cells → slice_index_or cells 0 other ≡ row from
one_cell row from cells other some is = get_or_default cells 0 other blank some ∙ (is.each 0 some ∙ ap row here)
  where
    here : from + 0 ≡ from
    here = omega arith
