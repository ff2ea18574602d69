-- What lies off a rectangle, and what a layer shows off its own.
use Rattle.std.proofs.Common.{◌≡◌, ℕ, pos, ◌-ℤ◌, Bool, true, false, List, refl, arith}
use Rattle.std.proofs.lemmas.Int.{ints}
use Rattle.tv_cells.specs.Canvas.{Covers, aside, sub}
use Rattle.tv_cells.specs.Damage.{HasAll}
use Rattle.tv_cells.specs.Glyph.{Glyph}
use Rattle.tv_cells.specs.Layers.{Painted, Shadow, covers, is_in, over}
use Rattle.tv_cells.specs.Rectangle.{shifted, sized}
use Rattle.tv_cells.specs.declared.canvas.Canvas.{Canvas}
use Rattle.tv_cells.specs.declared.rect.Rect.{Rect}
use Rattle.tv_cells.proofs.AddedLemmas.{false-true}
use Rattle.tv_cells.proofs.LayerLemmas.{covers_true, is_in_false, is_in_true}
use Rattle.tv_cells.proofs.RectangleLemmas.{in_cut}
use Rattle.tv_model.specs.Screen.Faces.{FaceOf}
use Rattle.tv_view.specs.Damage.{has_seen}

-- ---- a rectangle

-- it lacks what the damage lacks, if the damage has all of it
module _ (r : Rect) (damage : List Rect) (c : Canvas) (column row : ℕ) (all : HasAll r damage) (off : has_seen damage c column row ≡ false) where
  lacked : (b : Bool) → is_in (shifted r c.origin) (pos column) (pos row) ≡ b → is_in (shifted r c.origin) (pos column) (pos row) ≡ false
  lacked false e = e
  lacked true e =
      let i = is_in_true (shifted r c.origin) (pos column) (pos row) e in
      absurd (false-true off (all.each (pos column -ℤ c.origin.x) (pos row -ℤ c.origin.y) (record {
        after_left = omega (arith, ints, i.after_left);
        before_right = omega (arith, ints, i.before_right);
        after_top = omega (arith, ints, i.after_top);
        before_bottom = omega (arith, ints, i.before_bottom);
      })))

  pub damage-off : is_in (shifted r c.origin) (pos column) (pos row) ≡ false
  damage-off = lacked (is_in (shifted r c.origin) (pos column) (pos row)) refl

-- what lies off it, its own canvas lacks
module _ (r : Rect) (c : Canvas) (column row : ℕ) (out : is_in (shifted r c.origin) (pos column) (pos row) ≡ false) where
  unclipped : (b : Bool) → is_in (sub c r).clip (pos column) (pos row) ≡ b → is_in (sub c r).clip (pos column) (pos row) ≡ false
  unclipped false e = e
  unclipped true e =
      absurd (is_in_false (shifted r c.origin) (pos column) (pos row) out
      ((in_cut c.clip (shifted r c.origin) (pos column) (pos row)).0 (is_in_true (sub c r).clip (pos column) (pos row) e)).1)

  pub clip-off : is_in (sub c r).clip (pos column) (pos row) ≡ false
  clip-off = unclipped (is_in (sub c r).clip (pos column) (pos row)) refl

-- ---- a layer

covers-not : (c : Canvas) (r : Rect) (column row : ℕ) (b : Bool) → covers c r column row ≡ b → (Covers c r column row → ⊥) → covers c r column row ≡ false
covers-not c r column row false e out = e
covers-not c r column row true e out = absurd (out (covers_true c r column row e))

pub painted-off : (c : Canvas) (width height : ℕ) (face : FaceOf) (column row : ℕ) (under : Glyph) → (Covers c (sized width height) column row → ⊥) → over (Painted c width height face) column row under ≡ under
painted-off c width height face column row under out =
    let off = covers-not c (sized width height) column row (covers c (sized width height) column row) refl out in rw off refl

pub shadow-off : (c : Canvas) (r : Rect) (column row : ℕ) (under : Glyph) → (Covers c (shifted r aside) column row → ⊥) → over (Shadow c r) column row under ≡ under
shadow-off c r column row under out =
    let off = covers-not c (shifted r aside) column row (covers c (shifted r aside) column row) refl out in rw off refl
