-- The strips of cells: put together they are the cells, and the first ends where the attribute changes.
use Rattle.std.proofs.Common.{◌≡◌, ℕ, zero, suc, ◌+◌, ◌-◌, ◌<◌, ◌≤◌, ◌==◌, if◌then◌else◌, Bool, true, false, inl, inr, List, [], ◌∷◌, ◌++◌, map, flat_map, length, refl, sym, ap, ◌∙◌, arith, eq-eqb, ne_eqb}
use Rattle.std.proofs.lemmas.Bool.{cases_eq}
use Rattle.std.proofs.lemmas.List.FromFn.{length-map-range_with_len}
use Rattle.tv_cells.specs.Glyph.{Glyph, glyph}
use Rattle.tv_terminal.specs.Strips.{Strip, strip_cells, strip_with, with_cell, strips_of, cells_from, chars_from, strip_from, IsFirstStrip}

-- ---- a cell before strips

with_cell-same : (g : Glyph) (s : Strip) (ss : List Strip) → s.attr ≡ g.attr → with_cell g (s ∷ ss) ≡ strip_with g s.chars ∷ ss
with_cell-same g s ss e = ap (λ (b : Bool). if b then strip_with g s.chars ∷ ss else strip_with g [] ∷ s ∷ ss) (eq-eqb s.attr g.attr e)

with_cell-other : (g : Glyph) (s : Strip) (ss : List Strip) → (s.attr ≡ g.attr → ⊥) → with_cell g (s ∷ ss) ≡ strip_with g [] ∷ s ∷ ss
with_cell-other g s ss other = ap (λ (b : Bool). if b then strip_with g s.chars ∷ ss else strip_with g [] ∷ s ∷ ss) (ne_eqb s.attr g.attr other)

-- the first of some strips has an attribute
record StartsWith (attr : ℕ) (all : List Strip) : Type 0 where
  first : Strip
  others : List Strip
  is : all ≡ first ∷ others
  same : first.attr ≡ attr

with_cell-first : (g : Glyph) (ss : List Strip) → StartsWith g.attr (with_cell g ss)
with_cell-first g [] = record { first = strip_with g []; others = []; is = refl; same = refl }
with_cell-first g (s ∷ ss) =
    elim (s.attr == g.attr) as (λ b. StartsWith g.attr (if b then strip_with g s.chars ∷ ss else strip_with g [] ∷ s ∷ ss)) [
      | true ↦ record { first = strip_with g s.chars; others = ss; is = refl; same = refl }
      | false ↦ record { first = strip_with g []; others = s ∷ ss; is = refl; same = refl }
    ]

-- ---- strips put together

cells-with_cell : (g : Glyph) (ss : List Strip) → flat_map strip_cells (with_cell g ss) ≡ g ∷ flat_map strip_cells ss
cells-with_cell g [] = refl
cells-with_cell g (s ∷ ss) =
    elim (cases_eq s.attr g.attr) [
      | inl e ↦
          ap (flat_map strip_cells) (with_cell-same g s ss e)
          ∙ ap (λ (a : ℕ). g ∷ (map (λ (ch : ℕ). glyph ch a) s.chars ++ flat_map strip_cells ss)) (sym e)
      | inr other ↦ ap (flat_map strip_cells) (with_cell-other g s ss other)
    ]

pub strips-together : (gs : List Glyph) → flat_map strip_cells (strips_of gs) ≡ gs
strips-together [] = refl
strips-together (g ∷ gs) = cells-with_cell g (strips_of gs) ∙ ap (λ (t : List Glyph). g ∷ t) (strips-together gs)

-- ---- the first strip

module _ (at : ℕ → ℕ → Glyph) (row : ℕ) where
  alone : (a m : ℕ) → (0 < m → (at (a + 1) row).attr ≡ (at a row).attr → ⊥)
      → with_cell (at a row) (strips_of (cells_from at row (a + 1) m)) ≡ strip_with (at a row) [] ∷ strips_of (cells_from at row (a + 1) m)
  alone a zero other = refl
  alone a (suc m) other =
      let first = with_cell-first (at (a + 1) row) (strips_of (cells_from at row (a + 1 + 1) m)) in
      ap (with_cell (at a row)) first.is
      ∙ with_cell-other (at a row) first.first first.others (λ e. other (omega arith) (sym first.same ∙ e))
      ∙ ap (λ (ss : List Strip). strip_with (at a row) [] ∷ ss) (sym first.is)

  -- the first has `suc n` of `suc all` cells, if so many have its attribute and the next hasn't
  first-of : (a n m b all : ℕ) → a + suc n ≡ b → n + m ≡ all → ((k : ℕ) → a ≤ k → k < b → (at k row).attr ≡ (at a row).attr)
      → (0 < m → (at b row).attr ≡ (at a row).attr → ⊥)
      → strips_of (cells_from at row a (suc all)) ≡ strip_from at row a (suc n) ∷ strips_of (cells_from at row b m)
  first-of a zero m b all e f alike other =
      let next : a + 1 ≡ b = omega arith in
      let few : all ≡ m = omega arith in
      ap (λ (x : ℕ). with_cell (at a row) (strips_of (cells_from at row (a + 1) x))) few
      ∙ alone a m (λ some same. other some (ap (λ (x : ℕ). (at x row).attr) (sym next) ∙ same))
      ∙ ap (λ (x : ℕ). strip_with (at a row) [] ∷ strips_of (cells_from at row x m)) next
  first-of a (suc n) m b zero e f alike other = absurd (omega arith)
  first-of a (suc n) m b (suc all) e f alike other =
      let next : (at (a + 1) row).attr ≡ (at a row).attr = alike (a + 1) (omega arith) (omega arith) in
      let rest : strips_of (cells_from at row (a + 1) (suc all)) ≡ strip_from at row (a + 1) (suc n) ∷ strips_of (cells_from at row b m) =
      first-of (a + 1) n m b all (omega arith) (omega arith) (λ k from to. alike k (omega arith) to ∙ sym next) (λ some same. other some (same ∙ next)) in
      ap (with_cell (at a row)) rest ∙ with_cell-same (at a row) (strip_from at row (a + 1) (suc n)) (strips_of (cells_from at row b m)) next

  pub length-chars_from : (column count : ℕ) → length (chars_from at row column count) ≡ count
  length-chars_from column count = length-map-range_with_len (λ c. (at c row).ch) column count

  pub strips-first : (width column end rest : ℕ) → column + rest ≡ width → IsFirstStrip width at row column end
      → strips_of (cells_from at row column rest) ≡ strip_from at row column (end - column) ∷ strips_of (cells_from at row end (width - end))
  strips-first width column end rest e is =
      let some = is.some in
      let within = is.within in
      let one : rest ≡ suc (rest - 1) = omega arith in
      let long : suc (end - column - 1) ≡ end - column = omega arith in
      ap (λ (x : ℕ). strips_of (cells_from at row column x)) one
      ∙ first-of column (end - column - 1) (width - end) end (rest - 1) (omega arith) (omega arith) is.alike (λ more. is.whole (omega arith))
      ∙ ap (λ (x : ℕ). strip_from at row column x ∷ strips_of (cells_from at row end (width - end))) long
