-- Rectangles that come in.
use Rattle.std.proofs.Common.{◌≡◌, ℤ, Bool, true, false, List, [], ◌∷◌, ◌++◌, refl, sym, ◌∙◌, inl, inr}
use Rattle.tv_cells.specs.Damage.{AddsAll, Grows, GrowsIn, HasAll, has}
use Rattle.tv_cells.specs.declared.rect.Rect.{Rect}
use Rattle.tv_cells.proofs.DamageLemmas.{has-left, has-one, has-right, has-split, one-has}

-- ---- growth

pub in-none : (rects damage : List Rect) → GrowsIn rects damage damage
in-none rects damage = record { kept = λ x y e. e; within = λ r old also. old }

pub adds-none : (damage : List Rect) → AddsAll [] damage damage
adds-none damage = record { grown = in-none [] damage; added = λ x y e. absurd cc }

pub adds-one : (r : Rect) (old new : List Rect) → HasAll r new → Grows r old new → AddsAll (r ∷ []) old new
adds-one r old new all grown = record {
  grown = record { kept = grown.kept; within = λ s h holds. grown.within s h (record { each = λ x y i. holds.each x y (has-one r x y i) }) };
  added = λ x y e. all.each x y (one-has r x y e);
}

pub adds-then : (xs ys old mid new : List Rect) → AddsAll xs old mid → AddsAll ys mid new → AddsAll (xs ++ ys) old new
adds-then xs ys old mid new p q = record {
  grown = record {
    kept = λ x y e. q.grown.kept x y (p.grown.kept x y e);
    within = λ r h holds.
        q.grown.within r (p.grown.within r h (record { each = λ x y e. holds.each x y (has-left xs ys x y e) })) (record { each = λ x y e. holds.each x y (has-right xs ys x y e) });
  };
  added = λ x y e. elim (has-split xs ys x y e) [ inl left ↦ q.grown.kept x y (p.added x y left) | inr right ↦ q.added x y right ];
}

-- ---- what is lacked

pub false-true : {b : Bool} → b ≡ false → b ≡ true → ⊥
false-true e f = let g : false ≡ true = sym e ∙ f in absurd cc

lacked : (rects damage : List Rect) (x y : ℤ) (b : Bool) → has rects x y ≡ b → (has rects x y ≡ true → has damage x y ≡ true) → has damage x y ≡ false → has rects x y ≡ false
lacked rects damage x y false e part off = e
lacked rects damage x y true e part off = absurd (false-true off (part e))

-- a part lacks what the whole lacks
pub lacks : (rects damage : List Rect) (x y : ℤ) → (has rects x y ≡ true → has damage x y ≡ true) → has damage x y ≡ false → has rects x y ≡ false
lacks rects damage x y part off = lacked rects damage x y (has rects x y) refl part off
