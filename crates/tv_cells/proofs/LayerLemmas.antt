-- What is drawn over a picture of layers is the layer on their top.
use Rattle.std.proofs.Common.{◌≡◌, ℕ, ℤ, pos, ◌≤ℤ◌, ◌<ℤ◌, Bool, true, false, ◌&&◌, ◌↔◌, ◌≤◌, List, [], ◌∷◌, refl, ◌∙◌, ap, arith, inl, inr}
use Rattle.std.proofs.lemmas.Bool.{cases_lt}
use Rattle.std.proofs.lemmas.Int.{ints}
use Rattle.std.specs.Int.Signed.{le_z, lt_z}
use Rattle.tv_cells.specs.Glyph.{Glyph, blank, shaded}
use Rattle.tv_cells.specs.Rectangle.{IsIn, shifted}
use Rattle.tv_cells.specs.Picture.{Picture, IsOn, Changes, cell_at}
use Rattle.tv_cells.specs.Canvas.{Covers, IsInArea, IsShadow, face_at, aside}
use Rattle.tv_cells.specs.Rectangle.{sized}
use Rattle.tv_cells.specs.Layers.{Layer, Painted, Shadow, Shows, is_in, covers, over}
use Rattle.tv_cells.specs.declared.canvas.Area.{Area}
use Rattle.tv_cells.specs.declared.rect.Rect.{Rect}
use Rattle.tv_cells.specs.declared.canvas.Canvas.{Canvas}
use Rattle.tv_cells.proofs.ChangeLemmas.{on_new}

-- ---- the tests

pub le_true : (a b : ℤ) → le_z a b ≡ true → a ≤ℤ b
le_true a b e = grind (arith, ints)

le_false : (a b : ℤ) → le_z a b ≡ false → a ≤ℤ b → ⊥
le_false a b e h = grind (arith, ints)

lt_true : (a b : ℤ) → lt_z a b ≡ true → a <ℤ b
lt_true a b e = grind (arith, ints)

lt_false : (a b : ℤ) → lt_z a b ≡ false → a <ℤ b → ⊥
lt_false a b e h = grind (arith, ints)

-- `a && b` from its parts
both : {P Q : Type 0} (a b : Bool) → (a ≡ true → P) → (b ≡ true → Q) → (a && b) ≡ true → P × Q
both true true p q e = (p refl, q refl)
both true false p q e = absurd cc
both false b p q e = absurd cc

not_both : {P Q : Type 0} (a b : Bool) → (a ≡ false → P → ⊥) → (b ≡ false → Q → ⊥) → (a && b) ≡ false → P × Q → ⊥
not_both true true p q e h = absurd cc
not_both true false p q e h = q refl h.1
not_both false b p q e h = p refl h.0

pub is_in_true : (r : Rect) (x y : ℤ) → is_in r x y ≡ true → IsIn r x y
is_in_true r x y e =
    let h = both (le_z r.a.x x && lt_z x r.b.x) (le_z r.a.y y && lt_z y r.b.y)
    (both _ _ (le_true r.a.x x) (lt_true x r.b.x)) (both _ _ (le_true r.a.y y) (lt_true y r.b.y)) e in
    record { after_left = h.0.0; before_right = h.0.1; after_top = h.1.0; before_bottom = h.1.1 }

pub is_in_false : (r : Rect) (x y : ℤ) → is_in r x y ≡ false → IsIn r x y → ⊥
is_in_false r x y e i =
    not_both (le_z r.a.x x && lt_z x r.b.x) (le_z r.a.y y && lt_z y r.b.y)
    (not_both _ _ (le_false r.a.x x) (lt_false x r.b.x)) (not_both _ _ (le_false r.a.y y) (lt_false y r.b.y)) e
    ((i.after_left, i.before_right), (i.after_top, i.before_bottom))

pub covers_true : (c : Canvas) (r : Rect) (column row : ℕ) → covers c r column row ≡ true → Covers c r column row
covers_true c r column row e =
    let h = both (is_in c.clip (pos column) (pos row)) (is_in (shifted r c.origin) (pos column) (pos row)) (is_in_true c.clip (pos column) (pos row)) (is_in_true (shifted r c.origin) (pos column) (pos row)) e in
    record { clip = h.0; rect = h.1 }

pub covers_false : (c : Canvas) (r : Rect) (column row : ℕ) → covers c r column row ≡ false → Covers c r column row → ⊥
covers_false c r column row e i =
    not_both (is_in c.clip (pos column) (pos row)) (is_in (shifted r c.origin) (pos column) (pos row)) (is_in_false c.clip (pos column) (pos row)) (is_in_false (shifted r c.origin) (pos column) (pos row)) e (i.clip, i.rect)

-- ---- the layers

pub on_old : {Region : ℕ → ℕ → Type 0} {f : ℕ → ℕ → Glyph → Glyph} {old new : Picture} {column row : ℕ} → Changes Region f old new → IsOn new column row → IsOn old column row
on_old p on = record { across = rw (← p.size.width) on.across; down = rw (← p.size.height) on.down }

painted_cell : (c : Canvas) (width height : ℕ) (face : ℕ → ℕ → Glyph) (old new : Picture) → Changes (Covers c (sized width height)) (λ x y _. face_at c face x y) old new → (column row : ℕ) → IsOn old column row → (b : Bool) → covers c (sized width height) column row ≡ b → cell_at new column row ≡ over (Painted c width height face) column row (cell_at old column row)
painted_cell c width height face old new p column row on true e = rw e (p.inside column row on (covers_true c (sized width height) column row e))
painted_cell c width height face old new p column row on false e = rw e (p.outside column row on (covers_false c (sized width height) column row e))

shaded_cell : (c : Canvas) (r : Rect) (old new : Picture) → Changes (IsShadow c r) (λ _ _ under. shaded under) old new → (column row : ℕ) → IsOn old column row → (b d : Bool) → covers c (shifted r aside) column row ≡ b → is_in (shifted r c.origin) (pos column) (pos row) ≡ d → cell_at new column row ≡ over (Shadow c r) column row (cell_at old column row)
shaded_cell c r old new p column row on true true e f = rw (e, f) (p.outside column row on (λ s. s.free (is_in_true (shifted r c.origin) (pos column) (pos row) f)))
shaded_cell c r old new p column row on true false e f = rw (e, f) (p.inside column row on (record { moved = covers_true c (shifted r aside) column row e; free = is_in_false (shifted r c.origin) (pos column) (pos row) f }))
shaded_cell c r old new p column row on false d e f = rw e (p.outside column row on (λ s. covers_false c (shifted r aside) column row e s.moved))

-- a face that is painted over a picture is shown on its top
pub shows_painted : (c : Canvas) (width height : ℕ) (face : ℕ → ℕ → Glyph) (layers : List Layer) (old new : Picture) → Shows layers old → Changes (Covers c (sized width height)) (λ x y _. face_at c face x y) old new → Shows (Painted c width height face ∷ layers) new
shows_painted c width height face layers old new shows p = record {
  each = λ column row on.
      let at : IsOn old column row = on_old p on in
      painted_cell c width height face old new p column row at (covers c (sized width height) column row) refl
      ∙ ap (over (Painted c width height face) column row) (shows.each column row at);
}

-- and so is a shadow
pub shows_shaded : (c : Canvas) (r : Rect) (layers : List Layer) (old new : Picture) → Shows layers old → Changes (IsShadow c r) (λ _ _ under. shaded under) old new → Shows (Shadow c r ∷ layers) new
shows_shaded c r layers old new shows p = record {
  each = λ column row on.
      let at : IsOn old column row = on_old p on in
      shaded_cell c r old new p column row at (covers c (shifted r aside) column row) (is_in (shifted r c.origin) (pos column) (pos row)) refl refl
      ∙ ap (over (Shadow c r) column row) (shows.each column row at);
}
