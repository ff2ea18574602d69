-- The test of a rectangle's points.
use Rattle.std.proofs.Common.{◌≡◌, ◌∙◌, ◌↔◌, Bool, true, false, IsTrue, ℤ, refl, sym}
use Rattle.tv_cells.specs.Rectangle.{IsIn}
use Rattle.tv_cells.specs.Layers.{is_in}
use Rattle.tv_cells.specs.declared.rect.Rect.{Rect}
use Rattle.tv_cells.proofs.LayerLemmas.{is_in_true, is_in_false}

untrue : (b : Bool) → (IsTrue b → ⊥) → b ≡ false
untrue true h = absurd (h refl)
untrue false h = refl

pub is_in-test : (r : Rect) (x y : ℤ) (b : Bool) → IsTrue b ↔ IsIn r x y → b ≡ is_in r x y
is_in-test r x y b h = by_test (is_in r x y) refl
  where
    by_test : (t : Bool) → is_in r x y ≡ t → b ≡ is_in r x y
    by_test true e = h.1 (is_in_true r x y e) ∙ sym e
    by_test false e = untrue b (λ t. is_in_false r x y e (h.0 t)) ∙ sym e
