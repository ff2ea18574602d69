-- What a leaf has to do so that it is drawn alike, under two environments too, and what a group of leaves has to.
use Rattle.std.proofs.Common.{◌≡◌, ℕ, ℤ, pos, ◌+ℤ◌, ◌-ℤ◌, Bool, true, false, List, [], ◌∷◌, ◌++◌, map, refl, sym, ap, subst, ◌∙◌, inl, inr, arith}
use Rattle.std.proofs.lemmas.Int.{ints}
use Rattle.tv_cells.specs.Canvas.{sub}
use Rattle.tv_cells.specs.Damage.{Grows, HasAll, HasWithin, has}
use Rattle.tv_cells.specs.Glyph.{Glyph}
use Rattle.tv_cells.specs.Layers.{Layer, Painted, cell_over, is_in, over}
use Rattle.tv_cells.specs.Rectangle.{IsIn, cut, shifted}
use Rattle.tv_cells.specs.declared.canvas.Canvas.{Canvas}
use Rattle.tv_cells.specs.declared.rect.Rect.{Rect}
use Rattle.tv_cells.proofs.LayerLemmas.{is_in_false, is_in_true}
use Rattle.tv_cells.proofs.RectangleLemmas.{in_cut}
use Rattle.tv_cells.proofs.RepaintingLemmas.{over-append}
use Rattle.tv_model.specs.Description.Numbers.{natural}
use Rattle.tv_model.specs.Description.Nodes.{height_of}
use Rattle.tv_model.specs.Screen.Faces.{FaceOf}
use Rattle.tv_view.specs.Meaning.{Leaf, Placed, bounds_of, inside}
use Rattle.tv_view.specs.declared.env.Env.{Env}
use Rattle.tv_view.specs.Damage.{AddsWholeOrNothing, Damages, EnvDamages, IsDrawnAlike, TellsSame, has_seen}
use Rattle.tv_view.specs.Drawing.{faces_of, is_near, layers_in, leaf_layers, leaves_layers}
use Rattle.tv_view.specs.Fields.{content_of}
use Rattle.tv_view.proofs.LayingLemmas.{layers-far, layers-inside}
use Rattle.tv_cells.proofs.AddedLemmas.{lacks}

false-true : {b : Bool} → b ≡ false → b ≡ true → ⊥
false-true e f = let g : false ≡ true = sym e ∙ f in absurd cc

-- ---- drawings

pub alike-refl : (damage : List Rect) (f : Canvas → List Layer) → IsDrawnAlike damage f f
alike-refl damage f = record { each = λ c column row e under. refl }

pub alike-then : (damage : List Rect) (f g h : Canvas → List Layer) → IsDrawnAlike damage f g → IsDrawnAlike damage g h → IsDrawnAlike damage f h
alike-then damage f g h p q = record { each = λ c column row e under. p.each c column row e under ∙ q.each c column row e under }

-- more damage
pub alike-more : (before after : List Rect) (f g : Canvas → List Layer) → ((x y : ℤ) → has before x y ≡ true → has after x y ≡ true) → IsDrawnAlike before f g → IsDrawnAlike after f g
alike-more before after f g kept p = record {
  each = λ c column row e under.
      p.each c column row (lacks before after (pos column -ℤ c.origin.x) (pos row -ℤ c.origin.y) (kept (pos column -ℤ c.origin.x) (pos row -ℤ c.origin.y)) e) under;
}

-- one drawing over another
pub alike-append : (damage : List Rect) (f g h k : Canvas → List Layer) → IsDrawnAlike damage f g → IsDrawnAlike damage h k → IsDrawnAlike damage (λ c. f c ++ h c) (λ c. g c ++ k c)
alike-append damage f g h k p q = record {
  each = λ c column row e under.
      over-append (f c) (h c) column row under
      ∙ p.each c column row e (cell_over (h c) column row under)
      ∙ ap (cell_over (g c) column row) (q.each c column row e under)
      ∙ sym (over-append (g c) (k c) column row under);
}

-- no point has left
pub whole-kept : (r : Rect) (before after : List Rect) → AddsWholeOrNothing r before after → (x y : ℤ) → has before x y ≡ true → has after x y ≡ true
whole-kept r before after (inl none) x y e = subst (λ damage. has damage x y ≡ true) (sym none) e
whole-kept r before after (inr whole) x y e = whole.1.kept x y e

-- ---- what a clip lacks

cut-left : (r s : Rect) (x y : ℤ) (b : Bool) → is_in (cut r s) x y ≡ b → is_in r x y ≡ false → is_in (cut r s) x y ≡ false
cut-left r s x y false e out = e
cut-left r s x y true e out = absurd (is_in_false r x y out ((in_cut r s x y).0 (is_in_true (cut r s) x y e)).0)

cut-right : (r s : Rect) (x y : ℤ) (b : Bool) → is_in (cut r s) x y ≡ b → is_in s x y ≡ false → is_in (cut r s) x y ≡ false
cut-right r s x y false e out = e
cut-right r s x y true e out = absurd (is_in_false s x y out ((in_cut r s x y).0 (is_in_true (cut r s) x y e)).1)

-- through a clip that lacks a cell nothing is painted on it
painted-clipped : (c : Canvas) (width height : ℕ) (face : FaceOf) (column row : ℕ) (under : Glyph) → is_in c.clip (pos column) (pos row) ≡ false → over (Painted c width height face) column row under ≡ under
painted-clipped c width height face column row under out = rw out refl

faces-clipped : (c : Canvas) (width height : ℕ) (faces : List FaceOf) (column row : ℕ) (under : Glyph) → is_in c.clip (pos column) (pos row) ≡ false
    → cell_over (map (Painted c width height) faces) column row under ≡ under
faces-clipped c width height [] column row under out = refl
faces-clipped c width height (face ∷ faces) column row under out =
    painted-clipped c width height face column row (cell_over (map (Painted c width height) faces) column row under) out ∙ faces-clipped c width height faces column row under out

-- a leaf through a canvas whose clip lacks the cell, or outside its rectangle
leaf-unseen : (env : Env) (c : Canvas) (leaf : Leaf) (column row : ℕ) (under : Glyph) (b : Bool) → leaf.is_shown ≡ b → is_in (sub c (bounds_of leaf)).clip (pos column) (pos row) ≡ false
    → cell_over (leaf_layers env c leaf) column row under ≡ under
unfolding leaf_layers
leaf-unseen env c leaf column row under true shown out =
    rw shown (faces-clipped (sub c (bounds_of leaf)) (natural leaf.node.w) (natural (height_of leaf.node.kind)) (faces_of env leaf) column row under out)
leaf-unseen env c leaf column row under false hidden out = rw hidden refl

pub leaf-clipped : (env : Env) (c : Canvas) (leaf : Leaf) (column row : ℕ) (under : Glyph) → is_in c.clip (pos column) (pos row) ≡ false → cell_over (leaf_layers env c leaf) column row under ≡ under
leaf-clipped env c leaf column row under out =
    leaf-unseen env c leaf column row under leaf.is_shown refl (cut-left c.clip (shifted (bounds_of leaf) c.origin) (pos column) (pos row) (is_in (sub c (bounds_of leaf)).clip (pos column) (pos row)) refl out)

pub leaf-outside : (env : Env) (c : Canvas) (leaf : Leaf) (column row : ℕ) (under : Glyph) → is_in (shifted (bounds_of leaf) c.origin) (pos column) (pos row) ≡ false
    → cell_over (leaf_layers env c leaf) column row under ≡ under
leaf-outside env c leaf column row under out =
    leaf-unseen env c leaf column row under leaf.is_shown refl (cut-right c.clip (shifted (bounds_of leaf) c.origin) (pos column) (pos row) (is_in (sub c (bounds_of leaf)).clip (pos column) (pos row)) refl out)

module _ (env : Env) (column row : ℕ) where
  near-clipped : (c : Canvas) (bounds : Rect) (around : List Rect) (leaf : Leaf) (under : Glyph) (b : Bool) → is_near (sub c bounds).origin ≡ b
      → cell_over (layers_in env (sub c bounds) around leaf) column row under ≡ under → cell_over (layers_in env c (bounds ∷ around) leaf) column row under ≡ under
  near-clipped c bounds around leaf under true near inner = rw near inner
  near-clipped c bounds around leaf under false far inner = rw far refl

  placed-clipped : (c : Canvas) (around : List Rect) (leaf : Leaf) (under : Glyph) → is_in c.clip (pos column) (pos row) ≡ false → cell_over (layers_in env c around leaf) column row under ≡ under
  placed-clipped c [] leaf under out = leaf-clipped env c leaf column row under out
  placed-clipped c (bounds ∷ around) leaf under out =
      near-clipped c bounds around leaf under (is_near (sub c bounds).origin) refl
      (placed-clipped (sub c bounds) around leaf under (cut-left c.clip (shifted bounds c.origin) (pos column) (pos row) (is_in (sub c bounds).clip (pos column) (pos row)) refl out))

  pub leaves-clipped : (c : Canvas) (xs : List Placed) (under : Glyph) → is_in c.clip (pos column) (pos row) ≡ false → cell_over (leaves_layers env c xs) column row under ≡ under
  leaves-clipped c [] under out = refl
  leaves-clipped c (x ∷ xs) under out =
      over-append (leaves_layers env c xs) (layers_in env c x.around x.leaf) column row under
      ∙ leaves-clipped c xs (cell_over (layers_in env c x.around x.leaf) column row under) out
      ∙ placed-clipped c x.around x.leaf under out

-- ---- leaves

-- nothing that shows has changed
pub record LooksSame (old new : Leaf) : Type 0 where
  pub node : new.node ≡ old.node
  pub content : content_of new ≡ content_of old
  pub shown : new.is_shown ≡ old.is_shown
  pub enabled : new.is_enabled ≡ old.is_enabled

-- the rectangle of a leaf lacks what the damage lacks, if the damage has all of it
own-lacks : (r : Rect) (damage : List Rect) (c : Canvas) (column row : ℕ) (b : Bool) → HasAll r damage → has_seen damage c column row ≡ false
    → is_in (shifted r c.origin) (pos column) (pos row) ≡ b → is_in (shifted r c.origin) (pos column) (pos row) ≡ false
own-lacks r damage c column row false all e f = f
own-lacks r damage c column row true all e f =
    let i = is_in_true (shifted r c.origin) (pos column) (pos row) f in
    absurd (false-true e (all.each (pos column -ℤ c.origin.x) (pos row -ℤ c.origin.y) (record {
      after_left = omega (arith, ints, i.after_left);
      before_right = omega (arith, ints, i.before_right);
      after_top = omega (arith, ints, i.after_top);
      before_bottom = omega (arith, ints, i.before_bottom);
    })))

own-alike : (env other : Env) (old new : Leaf) (damage : List Rect) → new.node ≡ old.node → HasAll (bounds_of old) damage → IsDrawnAlike damage (λ c. leaf_layers env c old) (λ c. leaf_layers other c new)
own-alike env other old new damage node all = record {
  each = λ c column row e under.
      let r = bounds_of old in
      let out = own-lacks r damage c column row (is_in (shifted r c.origin) (pos column) (pos row)) all e refl in
      leaf-outside env c old column row under out ∙ sym (leaf-outside other c new column row under (rw node out));
}

-- and one that adds its own rectangle is, whatever changed
pub damages-own : (old new : Leaf) (before after : List Rect) → new.node ≡ old.node → HasAll (bounds_of old) after → Grows (bounds_of old) before after → Damages old new before after
damages-own old new before after node all grown = record { drawn = λ env. own-alike env env old new after node all; added = inr (all, grown) }

pub env-none : (old new : Env) (leaf : Leaf) (damage : List Rect) → ((c : Canvas) → leaf_layers old c leaf ≡ leaf_layers new c leaf) → EnvDamages old new leaf damage damage
env-none old new leaf damage same = record {
  drawn = record { each = λ c column row e under. ap (λ layers. cell_over layers column row under) (same c) };
  added = inl refl;
}

layers-told : (old new : Env) (c : Canvas) (leaf : Leaf) → TellsSame old new leaf → leaf_layers old c leaf ≡ leaf_layers new c leaf
unfolding leaf_layers
layers-told old new c leaf same = rw (same.owner, same.chain, same.look) refl

layers-hidden : (old new : Env) (c : Canvas) (leaf : Leaf) → leaf.is_shown ≡ false → leaf_layers old c leaf ≡ leaf_layers new c leaf
unfolding leaf_layers
layers-hidden old new c leaf hidden = rw hidden refl

-- a leaf of which both say the same adds nothing, nor does a hidden one
pub env-same : (old new : Env) (leaf : Leaf) (damage : List Rect) → TellsSame old new leaf → EnvDamages old new leaf damage damage
env-same old new leaf damage same = env-none old new leaf damage (λ c. layers-told old new c leaf same)

pub env-hidden : (old new : Env) (leaf : Leaf) (damage : List Rect) → leaf.is_shown ≡ false → EnvDamages old new leaf damage damage
env-hidden old new leaf damage hidden = env-none old new leaf damage (λ c. layers-hidden old new c leaf hidden)

-- any other adds its rectangle
pub env-own : (old new : Env) (leaf : Leaf) (before after : List Rect) → HasAll (bounds_of leaf) after → Grows (bounds_of leaf) before after → EnvDamages old new leaf before after
env-own old new leaf before after all grown = record { drawn = own-alike old new leaf leaf after refl all; added = inr (all, grown) }

-- ---- groups

-- what is alike in a pane is alike in what is around it, if the damage has what the pane shows of its own
module _ (bounds : Rect) (inner outer : List Rect) (has_all : HasWithin bounds inner outer) (f g : Canvas → List Layer) (alike : IsDrawnAlike inner f g)
    (unseen : (c : Canvas) (column row : ℕ) (under : Glyph) → is_in c.clip (pos column) (pos row) ≡ false → cell_over (f c) column row under ≡ under)
    (others : (c : Canvas) (column row : ℕ) (under : Glyph) → is_in c.clip (pos column) (pos row) ≡ false → cell_over (g c) column row under ≡ under) where
  seen-lacks : (c : Canvas) (column row : ℕ) (b : Bool) → IsIn (shifted bounds c.origin) (pos column) (pos row) → has_seen outer c column row ≡ false → has_seen inner (sub c bounds) column row ≡ b
      → has_seen inner (sub c bounds) column row ≡ false
  seen-lacks c column row false here e f = f
  seen-lacks c column row true here e f =
      let x = pos column -ℤ (sub c bounds).origin.x in
      let y = pos row -ℤ (sub c bounds).origin.y in
      let across : x +ℤ bounds.a.x ≡ pos column -ℤ c.origin.x = omega (arith, ints) in
      let down : y +ℤ bounds.a.y ≡ pos row -ℤ c.origin.y = omega (arith, ints) in
      let at = has_all.each x y f (record {
        after_left = omega (arith, ints, here.after_left);
        before_right = omega (arith, ints, here.before_right);
        after_top = omega (arith, ints, here.after_top);
        before_bottom = omega (arith, ints, here.before_bottom);
      }) in
      absurd (false-true e (rw (across, down) at at))

  pane-cell : (c : Canvas) (column row : ℕ) (under : Glyph) (b : Bool) → is_in (shifted bounds c.origin) (pos column) (pos row) ≡ b → has_seen outer c column row ≡ false
      → cell_over (f (sub c bounds)) column row under ≡ cell_over (g (sub c bounds)) column row under
  pane-cell c column row under true here e =
      alike.each (sub c bounds) column row (seen-lacks c column row (has_seen inner (sub c bounds) column row) (is_in_true (shifted bounds c.origin) (pos column) (pos row) here) e refl) under
  pane-cell c column row under false out e =
      let gone = cut-right c.clip (shifted bounds c.origin) (pos column) (pos row) (is_in (sub c bounds).clip (pos column) (pos row)) refl out in
      unseen (sub c bounds) column row under gone ∙ sym (others (sub c bounds) column row under gone)

  pub pane-alike : IsDrawnAlike outer (λ c. f (sub c bounds)) (λ c. g (sub c bounds))
  pane-alike = record { each = λ c column row e under. pane-cell c column row under (is_in (shifted bounds c.origin) (pos column) (pos row)) refl e }

-- the leaves of a group, in the group
pub group-alike : (env other : Env) (bounds : Rect) (xs ys : List Placed) (inner outer : List Rect) → HasWithin bounds inner outer
    → IsDrawnAlike inner (λ c. leaves_layers env c xs) (λ c. leaves_layers other c ys)
    → IsDrawnAlike outer (λ c. leaves_layers env c (map (inside bounds) xs)) (λ c. leaves_layers other c (map (inside bounds) ys))
group-alike env other bounds xs ys inner outer all alike = record { each = λ c column row e under. at c column row e under (is_near (sub c bounds).origin) refl }
  where
    pane : IsDrawnAlike outer (λ c. leaves_layers env (sub c bounds) xs) (λ c. leaves_layers other (sub c bounds) ys)
    pane = pane-alike bounds inner outer all (λ c. leaves_layers env c xs) (λ c. leaves_layers other c ys) alike
        (λ c column row under out. leaves-clipped env column row c xs under out) (λ c column row under out. leaves-clipped other column row c ys under out)

    at : (c : Canvas) (column row : ℕ) → has_seen outer c column row ≡ false → (under : Glyph) (b : Bool) → is_near (sub c bounds).origin ≡ b
        → cell_over (leaves_layers env c (map (inside bounds) xs)) column row under ≡ cell_over (leaves_layers other c (map (inside bounds) ys)) column row under
    at c column row e under true near =
        ap (λ layers. cell_over layers column row under) (layers-inside env c bounds xs near)
        ∙ pane.each c column row e under
        ∙ sym (ap (λ layers. cell_over layers column row under) (layers-inside other c bounds ys near))
    at c column row e under false far =
        ap (λ layers. cell_over layers column row under) (layers-far env c bounds xs far ∙ sym (layers-far other c bounds ys far))
