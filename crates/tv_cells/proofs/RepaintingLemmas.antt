-- Rectangles that are painted again show the layers.
use Rattle.std.proofs.Common.{◌≡◌, ℕ, ℤ, pos, ◌<◌, ◌+◌, Bool, true, false, not, ◌&&◌, ◌||◌, List, [], ◌∷◌, ◌++◌, map, length, get_or, take, refl, sym, ap, ◌∙◌, arith, inl, inr}
use Rattle.std.specs.Prelude.{if◌then◌else◌}
use Rattle.std.specs.Int.{int_gap}
use Rattle.std.proofs.lemmas.Int.{ints}
use Rattle.std.proofs.lemmas.List.Folds.{list_any_more}
use Rattle.tv_cells.specs.Canvas.{aside, face_at, whole}
use Rattle.tv_cells.specs.Glyph.{Glyph, blank, shaded}
use Rattle.tv_cells.specs.Layers.{Layer, Painted, Shadow, Shows, cell_of, covers, is_in, over, Lays, cell_over}
use Rattle.tv_cells.specs.Picture.{Picture, Changes, IsOn, cell_at}
use Rattle.tv_cells.specs.Rectangle.{cut, shifted, sized}
use Rattle.tv_cells.specs.Repainting.{AreAlike, Hides, KeepsRest, clipped, has_cell, within}
use Rattle.tv_cells.specs.declared.canvas.Canvas.{Canvas}
use Rattle.tv_cells.specs.declared.rect.Rect.{Rect}
use Rattle.tv_cells.proofs.ChangeLemmas.{on_new}
use Rattle.tv_cells.proofs.DamageLemmas.{is_in-true, or_left, or_right, or_split}
use Rattle.tv_cells.proofs.LayerLemmas.{is_in_false, is_in_true, on_old}
use Rattle.tv_cells.proofs.RectangleLemmas.{in_cut}

-- ---- lists of layers

pub over-append : (xs ys : List Layer) (column row : ℕ) (under : Glyph) → cell_over (xs ++ ys) column row under ≡ cell_over xs column row (cell_over ys column row under)
over-append [] ys column row under = refl
over-append (x ∷ xs) ys column row under = ap (over x column row) (over-append xs ys column row under)

pub cell-append : (xs ys : List Layer) (column row : ℕ) → cell_of (xs ++ ys) column row ≡ cell_over xs column row (cell_of ys column row)
cell-append [] ys column row = refl
cell-append (x ∷ xs) ys column row = ap (over x column row) (cell-append xs ys column row)

pub cell-blank : (xs : List Layer) (column row : ℕ) → cell_of xs column row ≡ cell_over xs column row blank
cell-blank [] column row = refl
cell-blank (x ∷ xs) column row = ap (over x column row) (cell-blank xs column row)

-- ---- cut layers

cut-inside : (r s : Rect) (x y : ℤ) (b d : Bool) → is_in (cut r s) x y ≡ b → is_in s x y ≡ d → is_in r x y ≡ true → is_in (cut r s) x y ≡ is_in s x y
cut-inside r s x y true true e f here = e ∙ sym f
cut-inside r s x y false false e f here = e ∙ sym f
cut-inside r s x y true false e f here = absurd (is_in_false s x y f ((in_cut r s x y).0 (is_in_true (cut r s) x y e)).1)
cut-inside r s x y false true e f here = absurd (is_in_false (cut r s) x y e ((in_cut r s x y).1 (is_in_true r x y here, is_in_true s x y f)))

cut-outside : (r s : Rect) (x y : ℤ) (b : Bool) → is_in (cut r s) x y ≡ b → is_in r x y ≡ false → is_in (cut r s) x y ≡ false
cut-outside r s x y false e out = e
cut-outside r s x y true e out = absurd (is_in_false r x y out ((in_cut r s x y).0 (is_in_true (cut r s) x y e)).0)

module _ (r : Rect) (column row : ℕ) where
  covers-inside : (c : Canvas) (q : Rect) → is_in r (pos column) (pos row) ≡ true → covers (within r c) q column row ≡ covers c q column row
  covers-inside c q here = ap (λ b. b && is_in (shifted q c.origin) (pos column) (pos row)) (cut-inside r c.clip (pos column) (pos row) (is_in (cut r c.clip) (pos column) (pos row)) (is_in c.clip (pos column) (pos row)) refl refl here)

  covers-outside : (c : Canvas) (q : Rect) → is_in r (pos column) (pos row) ≡ false → covers (within r c) q column row ≡ false
  covers-outside c q out = ap (λ b. b && is_in (shifted q c.origin) (pos column) (pos row)) (cut-outside r c.clip (pos column) (pos row) (is_in (cut r c.clip) (pos column) (pos row)) refl out)

  over-inside : (layer : Layer) (under : Glyph) → is_in r (pos column) (pos row) ≡ true → over (clipped r layer) column row under ≡ over layer column row under
  over-inside (Painted c width height face) under here = ap (λ b. if b then face_at c face column row else under) (covers-inside c (sized width height) here)
  over-inside (Shadow c q) under here = ap (λ b. if b && not (is_in (shifted q c.origin) (pos column) (pos row)) then shaded under else under) (covers-inside c (shifted q aside) here)

  over-outside : (layer : Layer) (under : Glyph) → is_in r (pos column) (pos row) ≡ false → over (clipped r layer) column row under ≡ under
  over-outside (Painted c width height face) under out = ap (λ b. if b then face_at c face column row else under) (covers-outside c (sized width height) out)
  over-outside (Shadow c q) under out = ap (λ b. if b && not (is_in (shifted q c.origin) (pos column) (pos row)) then shaded under else under) (covers-outside c (shifted q aside) out)

  -- in the rectangle cut layers show what the layers show
  pub clipped-inside : (layers : List Layer) (under : Glyph) → is_in r (pos column) (pos row) ≡ true → cell_over (map (clipped r) layers) column row under ≡ cell_over layers column row under
  clipped-inside [] under here = refl
  clipped-inside (layer ∷ layers) under here = over-inside layer (cell_over (map (clipped r) layers) column row under) here ∙ ap (over layer column row) (clipped-inside layers under here)

  -- outside they show nothing
  pub clipped-outside : (layers : List Layer) (under : Glyph) → is_in r (pos column) (pos row) ≡ false → cell_over (map (clipped r) layers) column row under ≡ under
  clipped-outside [] under out = refl
  clipped-outside (layer ∷ layers) under out = over-outside layer (cell_over (map (clipped r) layers) column row under) out ∙ clipped-outside layers under out

-- ---- what is laid, cell by cell

-- a picture shows a layer: its own cells
abbrev own_layer : Picture → Layer
own_layer p = Painted (whole p.width p.height) p.width p.height (cell_at p)

gap-from-start : (n : ℕ) → int_gap (pos 0) (pos n) ≡ n
gap-from-start n = omega (arith, ints)

on-whole : (p : Picture) (column row : ℕ) → IsOn p column row → is_in (sized p.width p.height) (pos column) (pos row) ≡ true
on-whole p column row on = is_in-true (sized p.width p.height) (pos column) (pos row) (record { after_left = omega (arith, ints); before_right = omega (arith, ints, on.across); after_top = omega (arith, ints); before_bottom = omega (arith, ints, on.down) })

on-moved : (p : Picture) (column row : ℕ) → IsOn p column row → is_in (shifted (sized p.width p.height) (whole p.width p.height).origin) (pos column) (pos row) ≡ true
on-moved p column row on = is_in-true (shifted (sized p.width p.height) (whole p.width p.height).origin) (pos column) (pos row) (record { after_left = omega (arith, ints); before_right = omega (arith, ints, on.across); after_top = omega (arith, ints); before_bottom = omega (arith, ints, on.down) })

shows-own : (p : Picture) → Shows (own_layer p ∷ []) p
shows-own p = record {
  each = λ column row on.
      sym (rw (on-whole p column row on, on-moved p column row on, gap-from-start column, gap-from-start row) refl);
}

pub laid-cell : (layers : List Layer) (old new : Picture) (column row : ℕ) → Lays layers old new → IsOn old column row → cell_at new column row ≡ cell_over layers column row (cell_at old column row)
laid-cell layers old new column row lays on =
    let at : IsOn new column row = record { across = rw lays.size.width on.across; down = rw lays.size.height on.down } in
    let own = shows-own old in
    (lays.shows (own_layer old ∷ []) own).each column row at
    ∙ cell-append layers (own_layer old ∷ []) column row
    ∙ ap (cell_over layers column row) (sym (own.each column row on))

-- ---- rectangles one after the other

-- the cells that have been painted again
abbrev pub IsDone : List Rect → ℕ → ℕ → Type 0
IsDone rects column row = has_cell rects column row ≡ true

false-not-true : {b : Bool} → b ≡ false → b ≡ true → ⊥
false-not-true e f = let g : false ≡ true = sym e ∙ f in absurd cc

not-true : (b : Bool) → (b ≡ true → ⊥) → b ≡ false
not-true false h = refl
not-true true h = absurd (h refl)

pub repainted-none : (layers : List Layer) (p : Picture) → Changes (IsDone []) (λ column row _. cell_of layers column row) p p
repainted-none layers p = record {
  size = record { width = refl; height = refl };
  inside = λ column row on done. absurd (false-not-true refl done);
  outside = λ column row on other. refl;
}

taken-test : (rects : List Rect) (i : ℕ) (d : Rect) (column row : ℕ) → i < length rects → has_cell (take (i + 1) rects) column row ≡ (has_cell (take i rects) column row || is_in (get_or rects i d) (pos column) (pos row))
taken-test rects i d column row h = list_any_more (λ r. is_in r (pos column) (pos row)) rects i d h

module _ (layers : List Layer) (rects : List Rect) (i : ℕ) (d : Rect) (old mid new : Picture) (h : i < length rects) (hides : Hides layers old)
    (before : Changes (IsDone (take i rects)) (λ column row _. cell_of layers column row) old mid) (lays : Lays (map (clipped (get_or rects i d)) layers) mid new) where
  abbrev r : Rect
  r = get_or rects i d

  -- a cell of the rectangle, whether it had been painted before or not
  in-rect : (column row : ℕ) → IsOn old column row → is_in r (pos column) (pos row) ≡ true → cell_at new column row ≡ cell_of layers column row
  in-rect column row on here =
      laid-cell (map (clipped r) layers) mid new column row lays (on_new before on)
      ∙ clipped-inside r column row layers (cell_at mid column row) here
      ∙ hides.each column row on (cell_at mid column row) blank
      ∙ sym (cell-blank layers column row)

  out-rect : (column row : ℕ) → IsOn old column row → is_in r (pos column) (pos row) ≡ false → cell_at new column row ≡ cell_at mid column row
  out-rect column row on out =
      laid-cell (map (clipped r) layers) mid new column row lays (on_new before on)
      ∙ clipped-outside r column row layers (cell_at mid column row) out

  painted : (column row : ℕ) (b : Bool) → is_in r (pos column) (pos row) ≡ b → IsOn old column row → IsDone (take (i + 1) rects) column row → cell_at new column row ≡ cell_of layers column row
  painted column row true e on done = in-rect column row on e
  painted column row false e on done =
      out-rect column row on e ∙ before.inside column row on (elim (or_split (has_cell (take i rects) column row) (is_in r (pos column) (pos row)) (sym (taken-test rects i d column row h) ∙ done)) [
        | inl was ↦ was
        | inr here ↦ absurd (false-not-true e here)
      ])

  pub repainted-next : Changes (IsDone (take (i + 1) rects)) (λ column row _. cell_of layers column row) old new
  repainted-next = record {
    size = record { width = lays.size.width ∙ before.size.width; height = lays.size.height ∙ before.size.height };
    inside = λ column row on done. painted column row (is_in r (pos column) (pos row)) refl on done;
    outside = λ column row on other.
        out-rect column row on (not-true (is_in r (pos column) (pos row)) (λ e. other (taken-test rects i d column row h ∙ or_right (has_cell (take i rects) column row) (is_in r (pos column) (pos row)) e)))
        ∙ before.outside column row on (λ e. other (taken-test rects i d column row h ∙ or_left (has_cell (take i rects) column row) (is_in r (pos column) (pos row)) e));
  }

-- ---- all of them

shown-cell : (damage : List Rect) (before layers : List Layer) (old new : Picture) → Shows before old → AreAlike old damage before layers
    → Changes (IsDone damage) (λ column row _. cell_of layers column row) old new → (column row : ℕ) (b : Bool) → has_cell damage column row ≡ b → IsOn old column row → cell_at new column row ≡ cell_of layers column row
shown-cell damage before layers old new shows alike p column row true e on = p.inside column row on e
shown-cell damage before layers old new shows alike p column row false e on =
    p.outside column row on (false-not-true e)
    ∙ shows.each column row on
    ∙ cell-blank before column row
    ∙ alike.each column row on e blank
    ∙ sym (cell-blank layers column row)

-- where the screen showed what is alike outside the damage, it shows the layers
pub shows-repainted : (damage : List Rect) (before layers : List Layer) (old new : Picture) → Shows before old → AreAlike old damage before layers
    → Changes (IsDone damage) (λ column row _. cell_of layers column row) old new → Shows layers new
shows-repainted damage before layers old new shows alike p = record {
  each = λ column row on. shown-cell damage before layers old new shows alike p column row (has_cell damage column row) refl (on_old p on);
}

pub rest-repainted : (damage : List Rect) (layers : List Layer) (old new : Picture) → Changes (IsDone damage) (λ column row _. cell_of layers column row) old new → KeepsRest damage old new
rest-repainted damage layers old new p = record { each = λ column row on e. p.outside column row on (false-not-true e) }

-- ---- what hides all that is below

-- a face that covers the cell hides what is below it, wherever it lies among the layers
pub covered-hides : (xs ys : List Layer) (c : Canvas) (width height : ℕ) (face : ℕ → ℕ → Glyph) (column row : ℕ) (under other : Glyph) → covers c (sized width height) column row ≡ true
    → cell_over (xs ++ Painted c width height face ∷ ys) column row under ≡ cell_over (xs ++ Painted c width height face ∷ ys) column row other
covered-hides [] ys c width height face column row under other e = rw e refl
covered-hides (x ∷ xs) ys c width height face column row under other e = ap (over x column row) (covered-hides xs ys c width height face column row under other e)

-- ---- lists that show the same, cut by a rectangle

same-clipped-at : (r : Rect) (xs ys : List Layer) (column row : ℕ) (under : Glyph) (b : Bool) → is_in r (pos column) (pos row) ≡ b → cell_over xs column row under ≡ cell_over ys column row under
    → cell_over (map (clipped r) xs) column row under ≡ cell_over (map (clipped r) ys) column row under
same-clipped-at r xs ys column row under true here same = clipped-inside r column row xs under here ∙ same ∙ sym (clipped-inside r column row ys under here)
same-clipped-at r xs ys column row under false out same = clipped-outside r column row xs under out ∙ sym (clipped-outside r column row ys under out)

pub same-clipped : (r : Rect) (xs ys : List Layer) → ((column row : ℕ) (under : Glyph) → cell_over xs column row under ≡ cell_over ys column row under)
    → (column row : ℕ) (under : Glyph) → cell_over (map (clipped r) xs) column row under ≡ cell_over (map (clipped r) ys) column row under
same-clipped r xs ys same column row under = same-clipped-at r xs ys column row under (is_in r (pos column) (pos row)) refl (same column row under)
