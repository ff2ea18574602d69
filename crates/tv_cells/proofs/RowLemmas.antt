-- Rows of a picture that are written at once.
use Rattle.std.proofs.Common.{◌≡◌, ℕ, ℤ, pos, negsuc, suc, ◌+◌, ◌-◌, ◌*◌, ◌<◌, ◌≤◌, ◌≤ℤ◌, List, ◌++◌, length, take, drop, slice_index_or, refl, sym, ap, ◌∙◌, ◌⊎◌, arith, inl, inr, rules}
use Rattle.std.specs.Int.{int_gap}
use Rattle.std.proofs.lemmas.Bool.{cases_lt}
use Rattle.std.proofs.lemmas.Int.{ints}
use Rattle.std.proofs.lemmas.List.{get_or-drop, get_or-take, get_or_append_left, get_or-append_right, length-drop, length-take-le}
use Rattle.std.proofs.Math.Nat.{mul-le-mul_right}
use borrow.Rule.Slice.PartMut.{put_mid, post_of}
use Rattle.tv_cells.specs.Glyph.{Glyph, blank, shaded}
use Rattle.tv_cells.specs.Picture.{Picture, IsOn, Changes, cell_at}
use Rattle.tv_cells.specs.Canvas.{IsInArea}
use Rattle.tv_cells.specs.Row.{IsRow, IsInRow}
use Rattle.tv_cells.specs.declared.canvas.Area.{Area}
use Rattle.tv_cells.proofs.ChangeLemmas.{changes_both, changes_none}

same_or_not : (m n : ℕ) → (m ≡ n) ⊎ (m ≡ n → ⊥)
same_or_not m n = elim (cases_lt m n) [
  | inl lt ↦ inr (λ e. absurd (omega arith))
  | inr le ↦ elim (cases_lt n m) [ inl gt ↦ inr (λ e. absurd (omega arith)) | inr ge ↦ inl (omega arith) ]
]

-- ---- a part of a list that is written

taken : (a : ℕ) (xs : List Glyph) → a ≤ length xs → length (take a xs) ≡ a
taken a xs le = search rules

before_part : (a k i : ℕ) (xs ys : List Glyph) → i < a → a ≤ length xs → slice_index_or (put_mid a k xs ys) i blank ≡ slice_index_or xs i blank
before_part a k i xs ys lt le =
    let n = taken a xs le in
    get_or_append_left (take a xs) (ys ++ post_of a k xs) blank i (omega (arith, n)) ∙ get_or-take a xs i blank lt

in_part : (a k i : ℕ) (xs ys : List Glyph) → a ≤ length xs → a ≤ i → i - a < length ys → slice_index_or (put_mid a k xs ys) i blank ≡ slice_index_or ys (i - a) blank
in_part a k i xs ys le ge lt =
    get_or-append_right (take a xs) (ys ++ post_of a k xs) a i blank (taken a xs le) ge
    ∙ get_or_append_left ys (post_of a k xs) blank (i - a) lt

after_part : (a k i : ℕ) (xs ys : List Glyph) → a ≤ length xs → length ys ≡ k → a + k ≤ i → slice_index_or (put_mid a k xs ys) i blank ≡ slice_index_or xs i blank
after_part a k i xs ys le len ge =
    let there : a + (k + (i - a - k)) ≡ i = omega arith in
    get_or-append_right (take a xs) (ys ++ post_of a k xs) a i blank (taken a xs le) (omega arith)
    ∙ (get_or-append_right ys (post_of a k xs) k (i - a) blank len (omega arith)
    ∙ (get_or-drop k (drop a xs) (i - a - k) blank
    ∙ (get_or-drop a xs (k + (i - a - k)) blank ∙ ap (λ j. slice_index_or xs j blank) there)))

-- ---- a row of a picture

part_long : (a k : ℕ) (xs : List Glyph) → a + k ≤ length xs → length (take k (drop a xs)) ≡ k
part_long a k xs le =
    let rest : length (drop a xs) ≡ length xs - a = length-drop a xs in
    length-take-le k (drop a xs) (omega arith)

abbrev pub with_row : Picture → ℕ → ℕ → ℕ → List Glyph → Picture
with_row p row left right ys = record { width = p.width; height = p.height; cells = put_mid (row * p.width + left) (row * p.width + right - (row * p.width + left)) p.cells ys }

module _ (p : Picture) (row left right : ℕ) (ys : List Glyph) (full : length p.cells ≡ p.width * p.height) (across : (left ≤ right) × (right ≤ p.width)) (down : row < p.height) (long : length ys ≡ right - left) where
  start_within : row * p.width + left ≤ length p.cells
  start_within = let h : suc row * p.width ≤ p.height * p.width = mul-le-mul_right p.width down in omega (arith, h, full, across.0, across.1)

  other_row : (column at : ℕ) → column < p.width → (at ≡ row → ⊥) → cell_at (with_row p row left right ys) column at ≡ cell_at p column at
  other_row column at on other = elim (cases_lt at row) [
    | inl lt ↦
        let h : suc at * p.width ≤ row * p.width = mul-le-mul_right p.width lt in
        before_part _ _ _ p.cells ys (omega (arith, h)) start_within
    | inr le ↦ elim (cases_lt row at) [
      | inl gt ↦
          let h : suc row * p.width ≤ at * p.width = mul-le-mul_right p.width gt in
          after_part _ _ _ p.cells ys start_within (omega (arith, long)) (omega (arith, h, across.0, across.1))
      | inr ge ↦ absurd (other (omega arith))
    ]
  ]

  beside : (column : ℕ) → (IsInRow left right row column row → ⊥) → cell_at (with_row p row left right ys) column row ≡ cell_at p column row
  beside column other = elim (cases_lt column left) [
    | inl lt ↦ before_part _ _ _ p.cells ys (omega arith) start_within
    | inr le ↦ elim (cases_lt column right) [
      | inl gt ↦ absurd (other (record { after = le; before = gt; here = refl }))
      | inr ge ↦ after_part _ _ _ p.cells ys start_within (omega (arith, long)) (omega (arith, across.0))
    ]
  ]

  inside_row : (f : ℕ → ℕ → Glyph → Glyph) (column : ℕ) → ((i : ℕ) → i < right - left → slice_index_or ys i blank ≡ f (left + i) row (cell_at p (left + i) row)) → left ≤ column → column < right
      → cell_at (with_row p row left right ys) column row ≡ f column row (cell_at p column row)
  inside_row f column is ge lt =
      let there : row * p.width + column - (row * p.width + left) ≡ column - left = omega arith in
      let same : left + (column - left) ≡ column = omega arith in
      in_part _ _ _ p.cells ys start_within (omega arith) (omega (arith, there, long))
      ∙ (ap (λ j. slice_index_or ys j blank) there ∙ (is (column - left) (omega arith) ∙ ap (λ j. f j row (cell_at p j row)) same))

part_of_row : (p : Picture) (row left right : ℕ) → length p.cells ≡ p.width * p.height → (left ≤ right) × (right ≤ p.width) → row < p.height
    → length (take (row * p.width + right - (row * p.width + left)) (drop (row * p.width + left) p.cells)) ≡ right - left
part_of_row p row left right full across down =
    let h : suc row * p.width ≤ p.height * p.width = mul-le-mul_right p.width down in
    part_long (row * p.width + left) (row * p.width + right - (row * p.width + left)) p.cells (omega (arith, h, full, across.0, across.1)) ∙ omega (arith, across.0)

-- the cell in a column of the part
cell_of_part : (p : Picture) (row left right i : ℕ) → i < right - left
    → slice_index_or (take (row * p.width + right - (row * p.width + left)) (drop (row * p.width + left) p.cells)) i blank ≡ cell_at p (left + i) row
cell_of_part p row left right i lt =
    let there : row * p.width + left + i ≡ row * p.width + (left + i) = omega arith in
    get_or-take (row * p.width + right - (row * p.width + left)) (drop (row * p.width + left) p.cells) i blank (omega (arith, lt))
    ∙ (get_or-drop (row * p.width + left) p.cells i blank ∙ ap (λ j. slice_index_or p.cells j blank) there)

-- the columns of a row are written: each cell becomes f of what it was
changes_written : (p : Picture) (row left right : ℕ) (ys : List Glyph) (f : ℕ → ℕ → Glyph → Glyph) → length p.cells ≡ p.width * p.height
    → (left ≤ right) × (right ≤ p.width) → row < p.height → length ys ≡ right - left
    → ((i : ℕ) → i < right - left → slice_index_or ys i blank ≡ f (left + i) row (cell_at p (left + i) row))
    → Changes (IsInRow left right row) f p (with_row p row left right ys)
changes_written p row left right ys f full across down long is = record {
  size = record { width = refl; height = refl };
  inside = λ column at on here. rw here.here (inside_row p row left right ys full across down long f column is here.after here.before);
  outside = λ column at on other. elim (same_or_not at row) [
    | inl e ↦ rw e (beside p row left right ys full across down long column (λ h. other (record { after = h.after; before = h.before; here = e })))
    | inr e ↦ other_row p row left right ys full across down long column at on.across e
  ];
}

-- the cells of a row of a face
pub changes_painted : (p : Picture) (row left right from : ℕ) (ys : List Glyph) (face : ℕ → Glyph) → length p.cells ≡ p.width * p.height
    → (left ≤ right) × (right ≤ p.width) → row < p.height → length ys ≡ length (take (row * p.width + right - (row * p.width + left)) (drop (row * p.width + left) p.cells)) → IsRow face from ys
    → Changes (IsInRow left right row) (λ column _ _. face (from + (column - left))) p (with_row p row left right ys)
changes_painted p row left right from ys face full across down count is =
    let long : length ys ≡ right - left = count ∙ part_of_row p row left right full across down in
    changes_written p row left right ys (λ column _ _. face (from + (column - left))) full across down long
    (λ i lt. let there : i ≡ left + i - left = omega arith in is.each i (omega (arith, long, lt)) ∙ ap (λ j. face (from + j)) there)

-- the cells of the row above
pub changes_copied : (p : Picture) (row left right : ℕ) (ys : List Glyph) → length p.cells ≡ p.width * p.height
    → (left ≤ right) × (right ≤ p.width) → (0 < row) × (row < p.height)
    → ys ≡ take ((row - 1) * p.width + left + (right - left) - ((row - 1) * p.width + left)) (drop ((row - 1) * p.width + left) (take (row * p.width + left) p.cells))
    → Changes (IsInRow left right row) (λ column _ _. cell_at p column (row - 1)) p
    (record { width = p.width; height = p.height; cells = take (row * p.width + left) p.cells ++ (ys ++ drop (right - left) (drop (row * p.width + left) p.cells)) })
changes_copied p row left right ys full across down is =
    let start = row * p.width + left in
    let above = (row - 1) * p.width + left in
    let count : row * p.width + right - start ≡ right - left = omega arith in
    let few : above + (right - left) - above ≡ right - left = omega arith in
    let up : suc (row - 1) ≡ row = omega (arith, down.0) in
    let rows : suc (row - 1) * p.width ≡ row * p.width = ap (λ (r : ℕ). r * p.width) up in
    let last : suc row * p.width ≤ p.height * p.width = mul-le-mul_right p.width down.1 in
    let front : length (take start p.cells) ≡ start = taken start p.cells (omega (arith, last, full, across.0, across.1)) in
    let long : length ys ≡ right - left = rw (is, few) (part_long above (right - left) (take start p.cells) (omega (arith, front, rows, across.0, across.1))) in
    rw count at (changes_written p row left right ys (λ column _ _. cell_at p column (row - 1)) full across down.1 long
    (λ i lt.
    let there : above + i ≡ (row - 1) * p.width + (left + i) = omega arith in
    rw (is, few) (get_or-take (right - left) (drop above (take start p.cells)) i blank lt
    ∙ (get_or-drop above (take start p.cells) i blank
    ∙ (get_or-take start p.cells (above + i) blank (omega (arith, lt, rows, across.1))
    ∙ ap (λ j. slice_index_or p.cells j blank) there)))))

-- the same cells, shaded
pub changes_shaded : (p : Picture) (row left right : ℕ) (ys : List Glyph) → length p.cells ≡ p.width * p.height
    → (left ≤ right) × (right ≤ p.width) → row < p.height → length ys ≡ length (take (row * p.width + right - (row * p.width + left)) (drop (row * p.width + left) p.cells))
    → ((i : ℕ) → i < length ys → slice_index_or ys i blank ≡ shaded (slice_index_or (take (row * p.width + right - (row * p.width + left)) (drop (row * p.width + left) p.cells)) i blank))
    → Changes (IsInRow left right row) (λ _ _ under. shaded under) p (with_row p row left right ys)
changes_shaded p row left right ys full across down count is =
    let long : length ys ≡ right - left = count ∙ part_of_row p row left right full across down in
    changes_written p row left right ys (λ _ _ under. shaded under) full across down long
    (λ i lt. is i (omega (arith, long, lt)) ∙ ap shaded (cell_of_part p row left right i lt))

-- ---- the rows of an area

-- the rows of an area before one of its rows
abbrev pub rows_before : Area → ℕ → Area
rows_before area row = record area { bottom = row }

-- no row is done at the start
pub changes_start : (area : Area) {f : ℕ → ℕ → Glyph → Glyph} {p : Picture} → Changes (IsInArea (rows_before area area.top)) f p p
changes_start area = changes_none (λ a b _ h. absurd (omega (arith, h.top, h.bottom)))

-- one row more
pub changes_next : (area : Area) (this : ℕ) {f : ℕ → ℕ → Glyph → Glyph} {old mid new : Picture} → area.top ≤ this
    → Changes (IsInArea (rows_before area this)) f old mid → Changes (IsInRow area.left area.right this) f mid new → Changes (IsInArea (rows_before area (this + 1))) f old new
changes_next area this le p q = changes_both
    (λ a b h k. omega (arith, h.bottom, k.here))
    (λ a b h. elim (cases_lt b this) [
      | inl lt ↦ inl (record { left = h.left; right = h.right; top = h.top; bottom = lt })
      | inr ge ↦ inr (record { after = h.left; before = h.right; here = omega (arith, h.bottom) })
    ])
    (λ a b h. record { left = h.left; right = h.right; top = h.top; bottom = omega (arith, h.bottom) })
    (λ a b h. record { left = h.after; right = h.before; top = omega (arith, h.here); bottom = omega (arith, h.here) })
    p q

-- the same change in other words
pub changes_as : {Region : ℕ → ℕ → Type 0} {f g : ℕ → ℕ → Glyph → Glyph} {old new : Picture} → ((column row : ℕ) (under : Glyph) → IsOn old column row → Region column row → f column row under ≡ g column row under) → Changes Region f old new → Changes Region g old new
changes_as same p = record {
  size = p.size;
  inside = λ column row on here. p.inside column row on here ∙ same column row _ on here;
  outside = p.outside;
}

gap_along : (o : ℤ) (left column : ℕ) → o ≤ℤ pos left → left ≤ column → int_gap o (pos left) + (column - left) ≡ int_gap o (pos column)
gap_along (pos o) left column before le = omega (arith, ints)
gap_along (negsuc o) left column before le = omega (arith, ints)

-- a row of a face that begins before the row's first column
pub shows_row : (face : ℕ → ℕ → Glyph) (x y : ℤ) (left right this from at : ℕ) {old new : Picture} → (IsOn old left this → left < right → x ≤ℤ pos left) → from ≡ int_gap x (pos left) → at ≡ int_gap y (pos this)
    → Changes (IsInRow left right this) (λ column _ _. face (from + (column - left)) at) old new
    → Changes (IsInRow left right this) (λ column row _. face (int_gap x (pos column)) (int_gap y (pos row))) old new
shows_row face x y left right this from at begins e f p = changes_as
    (λ column row under on here.
    let first : IsOn _ left this = record { across = omega (arith, on.across, here.after); down = rw (← here.here) on.down } in
    let along = gap_along x left column (begins first (omega (arith, here.after, here.before))) here.after in
    rw (e, f, here.here, along) refl)
    p

gap_above : (o : ℤ) (row : ℕ) → 0 < int_gap o (pos row) → 0 < row → int_gap o (pos (row - 1)) ≡ int_gap o (pos row) - 1
gap_above (pos o) row below some = omega (arith, ints, below, some)
gap_above (negsuc o) row below some = omega (arith, ints, below, some)

-- a row that is copied from the row above it, where the face has the same cells in both
pub shows_copied : (face : ℕ → ℕ → Glyph) (x y : ℤ) (area : Area) (this at : ℕ) {old mid new : Picture} → area.top < this → at ≡ int_gap y (pos this) → (0 < at) × ((a : ℕ) → face a at ≡ face a (at - 1))
    → Changes (IsInArea (rows_before area this)) (λ column row _. face (int_gap x (pos column)) (int_gap y (pos row))) old mid
    → Changes (IsInRow area.left area.right this) (λ column _ _. cell_at mid column (this - 1)) mid new
    → Changes (IsInRow area.left area.right this) (λ column row _. face (int_gap x (pos column)) (int_gap y (pos row))) mid new
shows_copied face x y area this at lt e same done p = changes_as
    (λ column row under on here.
    let above : IsInArea (rows_before area this) column (this - 1) = record { left = here.after; right = here.before; top = omega (arith, lt); bottom = omega (arith, lt) } in
    let there : IsOn _ column (this - 1) = record { across = rw done.size.width at on.across; down = omega (arith, on.down, here.here, done.size.height) } in
    let some : 0 < int_gap y (pos this) = rw e at same.0 in
    let up : int_gap y (pos (this - 1)) ≡ at - 1 = rw e (gap_above y this some (omega (arith, lt))) in
    done.inside column (this - 1) there above ∙ rw (up, here.here, ← e) (sym (same.1 (int_gap x (pos column)))))
    p
