-- What two spans share lies in one of the halves, unless one of them covers the whole.
use Rattle.std.proofs.Common.{◌≡◌, ℕ, Bool, true, false, not, ◌&&◌, ◌||◌, List, [], ◌∷◌, filter, fold, get_or, pos, ◌+ℤ◌, ◌≤ℤ◌, ◌<ℤ◌, int_le, int_lt, refl, sym, ap, subst, ◌∙◌, arith}
use Rattle.std.specs.List.{All}
use Rattle.std.proofs.lemmas.Bool.{and_parts, and_from, or_left, or_right}
use Rattle.std.proofs.lemmas.List.Elements.{All-cons, All-filter, All-nil, All-same, All-weaker, filter_passes}
use Rattle.std.proofs.lemmas.Int.{by_lt_z, clamps, ints}
use Rattle.tv_overlaps.specs.declared.placed.Placed.{Placed}
use Rattle.tv_overlaps.specs.declared.span.Span.{Span}
use Rattle.tv_overlaps.specs.Marks.{AreHalves, span_of_both, nowhere, IsPlacedItem, clash, collide, collide_filling, collide_wide, span_covers, enters, is_related, meets, one_fills, one_is_wide}
use Rattle.tv_overlaps.proofs.AreaLemmas.{le_holds, le_says, lt_holds, lt_says}
use Rattle.tv_overlaps.proofs.HitLemmas.{hit_split, hit_same, within}

record Meet (one other : Span) : Type 0 where
  before : one.low <ℤ other.high
  after : other.low <ℤ one.high

meet_says : (one other : Span) → meets one other ≡ true → Meet one other
meet_says one other e = let f : (int_lt one.low other.high ≡ true) × (int_lt other.low one.high ≡ true) = and_parts (int_lt one.low other.high) (int_lt other.low one.high) e in
    record { before = lt_says one.low other.high f.0; after = lt_says other.low one.high f.1 }

meet_holds : (one other : Span) → one.low <ℤ other.high → other.low <ℤ one.high → meets one other ≡ true
meet_holds one other b a = and_from (int_lt one.low other.high) (int_lt other.low one.high) (lt_holds one.low other.high b) (lt_holds other.low one.high a)

record Cover (one other : Span) : Type 0 where
  low : one.low ≤ℤ other.low
  high : other.high ≤ℤ one.high

cover_says : (one other : Span) → span_covers one other ≡ true → Cover one other
cover_says one other e = let f : (int_le one.low other.low ≡ true) × (int_le other.high one.high ≡ true) = and_parts (int_le one.low other.low) (int_le other.high one.high) e in
    record { low = le_says one.low other.low f.0; high = le_says other.high one.high f.1 }

cover_holds : (one other : Span) → one.low ≤ℤ other.low → other.high ≤ℤ one.high → span_covers one other ≡ true
cover_holds one other l h = and_from (int_le one.low other.low) (int_le other.high one.high) (le_holds one.low other.low l) (le_holds other.high one.high h)

-- ---- tests

neither : (a b : Bool) → false ≡ ((a && false) || (b && false))
neither true true = refl
neither true false = refl
neither false true = refl
neither false false = refl

either : (a b : Bool) → (a || b) ≡ true → true ≡ ((a && true) || (b && true))
either true b e = refl
either false true e = refl
either false false e = sym e

shared : (w v m l k u t : Bool) → (w ≡ true → m ≡ true) → (v ≡ true → m ≡ true) → (m ≡ true → ((l && k) || (u && t)) ≡ true)
    → m ≡ ((w || v) || ((((not w && l) && (not v && k)) && m) || (((not w && u) && (not v && t)) && m)))
shared true v m l k u t f g h = f refl
shared false true m l k u t f g h = g refl
shared false false true l k u t f g h = either (l && k) (u && t) (h refl)
shared false false false l k u t f g h = neither (l && k) (u && t)

distribute : (f c m w l r : Bool) → m ≡ (w || ((l && m) || (r && m)))
    → (f && (m && c)) ≡ ((f && (w && c)) || ((l && (f && (m && c))) || (r && (f && (m && c)))))
distribute true true true true l r e = e
distribute true true true false l r e = e
distribute true true false true l r e = e
distribute true true false false l r e = e
distribute true false true true l r e = neither l r
distribute true false true false l r e = neither l r
distribute true false false true l r e = neither l r
distribute true false false false l r e = neither l r
distribute false c m w l r e = neither l r

-- ---- spans that have something in the whole

record IsIn (whole span : Span) : Type 0 where
  has : span.low <ℤ span.high
  meets : meets whole span ≡ true

-- what covers the whole meets all that has something in it
covered : (whole one other : Span) → IsIn whole other → span_covers one whole ≡ true → meets one other ≡ true
covered whole one other o e = let c = cover_says one whole e in let m = meet_says whole other o.meets in
    meet_holds one other (omega (arith, ints)) (omega (arith, ints))

covered_by : (whole one other : Span) → IsIn whole one → span_covers other whole ≡ true → meets one other ≡ true
covered_by whole one other o e = let c = cover_says other whole e in let m = meet_says whole one o.meets in
    meet_holds one other (omega (arith, ints)) (omega (arith, ints))

module _ (whole lower upper : Span) (h : AreHalves whole lower upper) where
  in_half : (one other : Span) → IsIn whole one → IsIn whole other → meets one other ≡ true → ((meets lower one && meets lower other) || (meets upper one && meets upper other)) ≡ true
  in_half one other i o e =
      let m = meet_says one other e in let n = meet_says whole one i.meets in let k = meet_says whole other o.meets in
      let above : one.low <ℤ one.high = i.has in let over : other.low <ℤ other.high = o.has in
      let high : lower.high <ℤ one.high → lower.high <ℤ other.high → ((meets lower one && meets lower other) || (meets upper one && meets upper other)) ≡ true = λ a b.
      or_right (meets lower one && meets lower other) (meets upper one && meets upper other) (and_from (meets upper one) (meets upper other)
      (meet_holds upper one (omega (arith, ints)) (omega (arith, ints))) (meet_holds upper other (omega (arith, ints)) (omega (arith, ints)))) in
      by_lt_z one.low lower.high
      (λ a. by_lt_z other.low lower.high
      (λ b. or_left (meets lower one && meets lower other) (meets upper one && meets upper other) (and_from (meets lower one) (meets lower other)
      (meet_holds lower one (omega (arith, ints)) (omega (arith, ints))) (meet_holds lower other (omega (arith, ints)) (omega (arith, ints)))))
      (λ b. high (omega (arith, ints)) (omega (arith, ints))))
      (λ a. high (omega (arith, ints)) (omega (arith, ints)))

  meet_in : (one other : Span) → IsIn whole one → IsIn whole other
      → meets one other ≡ ((span_covers one whole || span_covers other whole) || (((enters whole lower one && enters whole lower other) && meets one other) || ((enters whole upper one && enters whole upper other) && meets one other)))
  meet_in one other i o =
      shared (span_covers one whole) (span_covers other whole) (meets one other) (meets lower one) (meets lower other) (meets upper one) (meets upper other)
      (covered whole one other o) (covered_by whole one other i) (in_half one other i o)

-- where the whole has one column or row at most
narrow : (whole one : Span) → whole.high ≤ℤ (whole.low +ℤ pos 1) → IsIn whole one → span_covers one whole ≡ true
narrow whole one n i = let m = meet_says whole one i.meets in cover_holds one whole (omega (arith, ints)) (omega (arith, ints))

meet_narrow : (whole one other : Span) → whole.high ≤ℤ (whole.low +ℤ pos 1) → IsIn whole one → IsIn whole other → meets one other ≡ (span_covers one whole || span_covers other whole)
meet_narrow whole one other n i o = covered whole one other o (narrow whole one n i) ∙ sym (or_left (span_covers one whole) (span_covers other whole) (narrow whole one n i))

-- ---- columns

record InColumns (count : ℕ) (columns : Span) (one : Placed) : Type 0 where
  item : IsPlacedItem count one
  meets : meets columns one.columns ≡ true

columns_in : (count : ℕ) (columns : Span) (x : Placed) → InColumns count columns x → IsIn columns x.columns
columns_in count columns x i = record { has = i.item.columns; meets = i.meets }

both_in : (count : ℕ) (columns : Span) (items : List Placed) → All (IsPlacedItem count) items → All (λ item. meets columns item.columns ≡ true) items → All (InColumns count columns) items
both_in count columns items a b k d less = record { item = a k d less; meets = b k d less }

module _ (count : ℕ) (rows columns left right : Span) (h : AreHalves columns left right) where
  in_columns : (one other : Placed) → InColumns count columns one → InColumns count columns other
      → collide_filling rows one other ≡ (collide_wide rows columns one other
      || (within (λ item. enters columns left item.columns) (collide_filling rows) one other || within (λ item. enters columns right item.columns) (collide_filling rows) one other))
  in_columns one other i o = distribute (one_fills rows one other) (clash one other) (meets one.columns other.columns) (one_is_wide columns one other) _ _
      (meet_in columns left right h one.columns other.columns (columns_in count columns one i) (columns_in count columns other o))

  pub split_columns : (items : List Placed) → All (IsPlacedItem count) items → All (λ item. meets columns item.columns ≡ true) items → (place : ℕ)
      → is_related (collide_filling rows) place [] items ≡ (is_related (collide_wide rows columns) place [] items
      || (is_related (collide_filling rows) place [] (filter (λ item. enters columns left item.columns) items) || is_related (collide_filling rows) place [] (filter (λ item. enters columns right item.columns) items)))
  split_columns items a b place = hit_split (collide_filling rows) (collide_wide rows columns) (λ item. enters columns left item.columns) (λ item. enters columns right item.columns) place
      (InColumns count columns) in_columns items (both_in count columns items a b)

pub narrow_columns : (count : ℕ) (rows columns : Span) → columns.high ≤ℤ (columns.low +ℤ pos 1) → (items : List Placed) → All (IsPlacedItem count) items → All (λ item. meets columns item.columns ≡ true) items → (place : ℕ)
    → is_related (collide_filling rows) place [] items ≡ is_related (collide_wide rows columns) place [] items
narrow_columns count rows columns n items a b place = hit_same (collide_filling rows) (collide_wide rows columns) place (InColumns count columns)
    (λ one other i o. ap (λ m. one_fills rows one other && (m && clash one other)) (meet_narrow columns one.columns other.columns n (columns_in count columns one i) (columns_in count columns other o)))
    [] items (λ k d less. absurd (omega arith)) (both_in count columns items a b)

-- ---- rows

record InRows (count : ℕ) (rows : Span) (one : Placed) : Type 0 where
  item : IsPlacedItem count one
  meets : meets rows one.rows ≡ true

rows_in : (count : ℕ) (rows : Span) (x : Placed) → InRows count rows x → IsIn rows x.rows
rows_in count rows x i = record { has = i.item.rows; meets = i.meets }

in_rows_both : (count : ℕ) (rows : Span) (items : List Placed) → All (IsPlacedItem count) items → All (λ item. meets rows item.rows ≡ true) items → All (InRows count rows) items
in_rows_both count rows items a b k d less = record { item = a k d less; meets = b k d less }

module _ (count : ℕ) (rows upper lower : Span) (h : AreHalves rows upper lower) where
  in_rows : (one other : Placed) → InRows count rows one → InRows count rows other
      → collide one other ≡ (collide_filling rows one other
      || (within (λ item. enters rows upper item.rows) collide one other || within (λ item. enters rows lower item.rows) collide one other))
  in_rows one other i o = distribute true (meets one.columns other.columns && clash one other) (meets one.rows other.rows) (one_fills rows one other) _ _
      (meet_in rows upper lower h one.rows other.rows (rows_in count rows one i) (rows_in count rows other o))

  pub split_rows : (items : List Placed) → All (IsPlacedItem count) items → All (λ item. meets rows item.rows ≡ true) items → (place : ℕ)
      → is_related collide place [] items ≡ (is_related (collide_filling rows) place [] items
      || (is_related collide place [] (filter (λ item. enters rows upper item.rows) items) || is_related collide place [] (filter (λ item. enters rows lower item.rows) items)))
  split_rows items a b place = hit_split collide (collide_filling rows) (λ item. enters rows upper item.rows) (λ item. enters rows lower item.rows) place
      (InRows count rows) in_rows items (in_rows_both count rows items a b)

pub narrow_rows : (count : ℕ) (rows : Span) → rows.high ≤ℤ (rows.low +ℤ pos 1) → (items : List Placed) → All (IsPlacedItem count) items → All (λ item. meets rows item.rows ≡ true) items → (place : ℕ)
    → is_related collide place [] items ≡ is_related (collide_filling rows) place [] items
narrow_rows count rows n items a b place = hit_same collide (collide_filling rows) place (InRows count rows)
    (λ one other i o. ap (λ m. m && (meets one.columns other.columns && clash one other)) (meet_narrow rows one.rows other.rows n (rows_in count rows one i) (rows_in count rows other o)))
    [] items (λ k d less. absurd (omega arith)) (in_rows_both count rows items a b)

-- ---- what enters a half

entered : (whole half span : Span) → enters whole half span ≡ true → meets half span ≡ true
entered whole half span e = let f : (not (span_covers span whole) ≡ true) × (meets half span ≡ true) = and_parts (not (span_covers span whole)) (meets half span) e in f.1

pub enter_columns : (columns half : Span) (items these : List Placed) → these ≡ filter (λ item. enters columns half item.columns) items → All (λ item. meets half item.columns ≡ true) these
enter_columns columns half items these e =
    All-same (λ item. meets half item.columns ≡ true) these (filter (λ item. enters columns half item.columns) items) e
    (All-weaker (λ item. enters columns half item.columns ≡ true) (λ item. meets half item.columns ≡ true) (λ item. entered columns half item.columns)
    (filter (λ item. enters columns half item.columns) items) (filter_passes (λ item. enters columns half item.columns) items))

pub enter_rows : (rows half : Span) (items these : List Placed) → these ≡ filter (λ item. enters rows half item.rows) items → All (λ item. meets half item.rows ≡ true) these
enter_rows rows half items these e =
    All-same (λ item. meets half item.rows ≡ true) these (filter (λ item. enters rows half item.rows) items) e
    (All-weaker (λ item. enters rows half item.rows ≡ true) (λ item. meets half item.rows ≡ true) (λ item. entered rows half item.rows)
    (filter (λ item. enters rows half item.rows) items) (filter_passes (λ item. enters rows half item.rows) items))

-- a part of the items, for as many marks
pub part_of : (count marks : ℕ) (p : Placed → Bool) (items these : List Placed) → marks ≡ count → these ≡ filter p items → All (IsPlacedItem count) items → All (IsPlacedItem marks) these
part_of count marks p items these same e all =
    subst (λ (n : ℕ). All (IsPlacedItem n) these) (sym same) (All-same (IsPlacedItem count) these (filter p items) e (All-filter p (IsPlacedItem count) items all))

-- ---- spans around others

around_keeps : (one other span : Span) → span_covers one span ≡ true → span_covers (span_of_both one other) span ≡ true
around_keeps one other span e = let c = cover_says one span e in cover_holds (span_of_both one other) span (omega (arith, ints, clamps)) (omega (arith, ints, clamps))

around_has : (one other : Span) → span_covers (span_of_both one other) other ≡ true
around_has one other = cover_holds (span_of_both one other) other (omega (arith, ints, clamps)) (omega (arith, ints, clamps))

-- what lies in the whole has something there
meets_part : (whole span : Span) → span.low <ℤ span.high → span_covers whole span ≡ true → meets whole span ≡ true
meets_part whole span has e = let c = cover_says whole span e in meet_holds whole span (omega (arith, ints)) (omega (arith, ints))

module _ (span_of : Placed → Span) where
  abbrev around_all : Span → List Placed → Span
  around_all = fold (λ span item. span_of_both span (span_of item))

  all_keep : (one span : Span) (items : List Placed) → span_covers one span ≡ true → span_covers (around_all one items) span ≡ true
  all_keep one span [] e = e
  all_keep one span (x ∷ items) e = all_keep (span_of_both one (span_of x)) span items (around_keeps one (span_of x) span e)

  all_have : (one : Span) (items : List Placed) → All (λ item. span_covers (around_all one items) (span_of item) ≡ true) items
  all_have one [] = All-nil (λ item. span_covers one (span_of item) ≡ true)
  all_have one (x ∷ items) = All-cons (λ item. span_covers (around_all (span_of_both one (span_of x)) items) (span_of item) ≡ true) x items
      (all_keep (span_of_both one (span_of x)) (span_of x) items (around_has one (span_of x))) (all_have (span_of_both one (span_of x)) items)

pub columns_meet : (count : ℕ) (columns : Span) (items : List Placed) → columns ≡ fold (λ span item. span_of_both span item.columns) nowhere items → All (IsPlacedItem count) items → All (λ item. meets columns item.columns ≡ true) items
columns_meet count columns items e all k d less = let i = all k d less in
    ap (λ (span : Span). meets span (get_or items k d).columns) e
    ∙ meets_part (around_all (λ item. item.columns) nowhere items) (get_or items k d).columns i.columns (all_have (λ item. item.columns) nowhere items k d less)

pub rows_meet : (count : ℕ) (rows : Span) (items : List Placed) → rows ≡ fold (λ span item. span_of_both span item.rows) nowhere items → All (IsPlacedItem count) items → All (λ item. meets rows item.rows ≡ true) items
rows_meet count rows items e all k d less = let i = all k d less in
    ap (λ (span : Span). meets span (get_or items k d).rows) e
    ∙ meets_part (around_all (λ item. item.rows) nowhere items) (get_or items k d).rows i.rows (all_have (λ item. item.rows) nowhere items k d less)
