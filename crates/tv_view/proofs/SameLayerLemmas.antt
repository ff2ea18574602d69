-- Layers that show the same over whatever is below them.
use Rattle.std.proofs.Common.{◌≡◌, ℕ, ℤ, pos, negsuc, ◌+ℤ◌, ◌≤ℤ◌, ◌<ℤ◌, Bool, true, false, not, ◌&&◌, List, [], ◌∷◌, ◌++◌, map, refl, sym, ap, ◌∙◌, arith}
use Rattle.std.specs.Prelude.{if◌then◌else◌}
use Rattle.std.proofs.lemmas.Int.{ints}
use Rattle.tv_cells.specs.Glyph.{Glyph, shaded}
use Rattle.tv_cells.specs.Canvas.{Covers, aside, face_at, sub}
use Rattle.tv_cells.specs.Layers.{Lays, Layer, Painted, Shadow, ShowsSame, cell_of, cell_over, covers, is_in}
use Rattle.tv_cells.specs.Picture.{Picture}
use Rattle.tv_cells.specs.Rectangle.{IsIn, shifted, sized}
use Rattle.tv_cells.specs.declared.rect.Point.{Point}
use Rattle.tv_cells.specs.declared.rect.Rect.{Rect}
use Rattle.tv_cells.specs.declared.canvas.Canvas.{Canvas}
use Rattle.tv_cells.proofs.LayerLemmas.{is_in_true, is_in_false, covers_true, covers_false}
use Rattle.tv_cells.proofs.RectangleLemmas.{in_cut}
use Rattle.tv_cells.proofs.RepaintingLemmas.{cell-append, over-append}
use Rattle.tv_model.specs.Description.Rectangles.{rect}
use Rattle.tv_model.specs.Description.Numbers.{natural}
use Rattle.tv_model.specs.Screen.Faces.{FaceOf}

-- ---- lists of layers

pub same_refl : (xs : List Layer) → ShowsSame xs xs
same_refl xs = record { each = λ column row under. refl }

pub same_append : (xs xs' ys ys' : List Layer) → ShowsSame xs xs' → ShowsSame ys ys' → ShowsSame (xs ++ ys) (xs' ++ ys')
same_append xs xs' ys ys' p q = record {
  each = λ column row under.
      over-append xs ys column row under ∙ (ap (cell_over xs column row) (q.each column row under)
      ∙ (p.each column row (cell_over ys' column row under) ∙ sym (over-append xs' ys' column row under)));
}

pub lays_same : (xs ys : List Layer) (old new : Picture) → ShowsSame xs ys → Lays xs old new → Lays ys old new
lays_same xs ys old new same lays = record {
  size = lays.size;
  shows = λ below shown. record {
    each = λ column row on.
        (lays.shows below shown).each column row on
        ∙ (cell-append xs below column row ∙ (same.each column row (cell_of below column row) ∙ sym (cell-append ys below column row)));
  };
}

-- ---- one layer

bool_same : {P Q : Type 0} (b d : Bool) → (b ≡ true → P) → (b ≡ false → P → ⊥) → (d ≡ true → Q) → (d ≡ false → Q → ⊥) → (P → Q) → (Q → P) → b ≡ d
bool_same true true holds fails also never to back = refl
bool_same true false holds fails also never to back = absurd (never refl (to (holds refl)))
bool_same false true holds fails also never to back = absurd (fails refl (back (also refl)))
bool_same false false holds fails also never to back = refl

in_same : (r s : Rect) (x y : ℤ) → (IsIn r x y → IsIn s x y) → (IsIn s x y → IsIn r x y) → is_in r x y ≡ is_in s x y
in_same r s x y to back = bool_same (is_in r x y) (is_in s x y) (is_in_true r x y) (is_in_false r x y) (is_in_true s x y) (is_in_false s x y) to back

covers_same : (c d : Canvas) (r s : Rect) (column row : ℕ) → (Covers c r column row → Covers d s column row) → (Covers d s column row → Covers c r column row) → covers c r column row ≡ covers d s column row
covers_same c d r s column row to back =
    bool_same (covers c r column row) (covers d s column row) (covers_true c r column row) (covers_false c r column row) (covers_true d s column row) (covers_false d s column row) to back

pub painted_same : (c d : Canvas) (width height : ℕ) (face other : ℕ → ℕ → Glyph) → c.origin ≡ d.origin → face ≡ other
    → ((column row : ℕ) → Covers c (sized width height) column row → Covers d (sized width height) column row)
    → ((column row : ℕ) → Covers d (sized width height) column row → Covers c (sized width height) column row)
    → ShowsSame (Painted c width height face ∷ []) (Painted d width height other ∷ [])
painted_same c d width height face other origin same to back = record {
  each = λ column row under.
      ap (λ b. if b then face_at c face column row else under) (covers_same c d (sized width height) (sized width height) column row (to column row) (back column row))
      ∙ (ap (λ f. if covers d (sized width height) column row then face_at c f column row else under) same
      ∙ ap (λ o. if covers d (sized width height) column row then face_at (record { clip = c.clip; origin = o }) other column row else under) origin);
}

pub shadow_same : (c d : Canvas) (r s : Rect)
    → ((column row : ℕ) → Covers c (shifted r aside) column row → Covers d (shifted s aside) column row)
    → ((column row : ℕ) → Covers d (shifted s aside) column row → Covers c (shifted r aside) column row)
    → ((column row : ℕ) → IsIn (shifted r c.origin) (pos column) (pos row) → IsIn (shifted s d.origin) (pos column) (pos row))
    → ((column row : ℕ) → IsIn (shifted s d.origin) (pos column) (pos row) → IsIn (shifted r c.origin) (pos column) (pos row))
    → ShowsSame (Shadow c r ∷ []) (Shadow d s ∷ [])
shadow_same c d r s to back lies lay = record {
  each = λ column row under.
      ap (λ b. if b && not (is_in (shifted r c.origin) (pos column) (pos row)) then shaded under else under) (covers_same c d (shifted r aside) (shifted s aside) column row (to column row) (back column row))
      ∙ ap (λ b. if covers d (shifted s aside) column row && not b then shaded under else under) (in_same (shifted r c.origin) (shifted s d.origin) (pos column) (pos row) (lies column row) (lay column row));
}

-- ---- sizes

nat_to : (w o z : ℤ) → o ≤ℤ z → z <ℤ (pos (natural w) +ℤ o) → z <ℤ (o +ℤ w)
nat_to (pos n) o z from less = omega (arith, ints, from, less)
nat_to (negsuc n) o z from less = absurd (omega (arith, ints, from, less))

nat_back : (w o z : ℤ) → z <ℤ (o +ℤ w) → z <ℤ (pos (natural w) +ℤ o)
nat_back (pos n) o z less = omega (arith, ints, less)
nat_back (negsuc n) o z less = omega (arith, ints, less)

-- a rectangle that is seen from an origin, and its size from its corner
module _ (x y w h : ℤ) (o corner : Point) (left : corner.x ≡ (x +ℤ o.x)) (top : corner.y ≡ (y +ℤ o.y)) (p q : ℤ) where
  pub unsized : IsIn (shifted (sized (natural w) (natural h)) corner) p q → IsIn (shifted (rect x y w h) o) p q
  unsized i =
      let right = nat_to w corner.x p (omega (arith, ints, i.after_left)) i.before_right in
      let bottom = nat_to h corner.y q (omega (arith, ints, i.after_top)) i.before_bottom in
      record {
        after_left = omega (arith, ints, i.after_left, left);
        before_right = omega (arith, ints, right, left);
        after_top = omega (arith, ints, i.after_top, top);
        before_bottom = omega (arith, ints, bottom, top);
      }

  pub resized : IsIn (shifted (rect x y w h) o) p q → IsIn (shifted (sized (natural w) (natural h)) corner) p q
  resized i = record {
    after_left = omega (arith, ints, i.after_left, left);
    before_right = nat_back w corner.x p (omega (arith, ints, i.before_right, left));
    after_top = omega (arith, ints, i.after_top, top);
    before_bottom = nat_back h corner.y q (omega (arith, ints, i.before_bottom, top));
  }

-- the canvas of a rectangle covers, from its corner, what the canvas around it covers of the rectangle
module _ (c : Canvas) (x y w h : ℤ) (column row : ℕ) where
  pub covers_sub : Covers (sub c (rect x y w h)) (sized (natural w) (natural h)) column row → Covers c (rect x y w h) column row
  covers_sub i = let both = (in_cut c.clip (shifted (rect x y w h) c.origin) (pos column) (pos row)).0 i.clip in record { clip = both.0; rect = both.1 }

  pub sub_covers : Covers c (rect x y w h) column row → Covers (sub c (rect x y w h)) (sized (natural w) (natural h)) column row
  sub_covers i = record {
    clip = (in_cut c.clip (shifted (rect x y w h) c.origin) (pos column) (pos row)).1 (i.clip, i.rect);
    rect = resized x y w h c.origin (sub c (rect x y w h)).origin refl refl (pos column) (pos row) i.rect;
  }

-- faces of one size, one over the other, through two canvases
pub faces_same : (c d : Canvas) (width height : ℕ) (faces : List FaceOf) → c.origin ≡ d.origin
    → ((column row : ℕ) → Covers c (sized width height) column row → Covers d (sized width height) column row)
    → ((column row : ℕ) → Covers d (sized width height) column row → Covers c (sized width height) column row)
    → ShowsSame (map (Painted c width height) faces) (map (Painted d width height) faces)
faces_same c d width height [] origin to back = same_refl []
faces_same c d width height (face ∷ faces) origin to back =
    same_append (Painted c width height face ∷ []) (Painted d width height face ∷ []) (map (Painted c width height) faces) (map (Painted d width height) faces)
    (painted_same c d width height face face origin refl to back) (faces_same c d width height faces origin to back)
