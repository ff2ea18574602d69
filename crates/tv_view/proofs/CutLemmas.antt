-- What is drawn through a canvas that a rectangle of the screen cuts is what is drawn through the canvas, cut by the rectangle.
use Rattle.std.proofs.Common.{◌≡◌, ℤ, Bool, true, false, List, [], ◌∷◌, ◌++◌, map, refl, sym, ap, ◌∙◌, arith}
use Rattle.std.specs.Int.{int_max, int_min}
use Rattle.std.proofs.lemmas.Int.{ints, clamps}
use Rattle.std.proofs.lemmas.List.{map-append}
use Rattle.tv_cells.specs.Canvas.{sub}
use Rattle.tv_cells.specs.Layers.{Painted}
use Rattle.tv_cells.specs.Rectangle.{cut, shifted}
use Rattle.tv_cells.specs.Repainting.{clipped, within}
use Rattle.tv_cells.specs.declared.canvas.Canvas.{Canvas}
use Rattle.tv_cells.specs.declared.rect.Rect.{Rect}
use Rattle.tv_cells.proofs.RectangleLemmas.{point_is, rect_is}
use Rattle.tv_model.specs.Description.Numbers.{natural}
use Rattle.tv_model.specs.Description.Nodes.{height_of}
use Rattle.tv_model.specs.Screen.Faces.{FaceOf}
use Rattle.tv_view.specs.Meaning.{Leaf, Placed, bounds_of}
use Rattle.tv_view.specs.declared.env.Env.{Env}
use Rattle.tv_view.specs.Drawing.{faces_of, is_near, layers_in, leaf_layers, leaves_layers}

max-assoc : (a b c : ℤ) → int_max (int_max a b) c ≡ int_max a (int_max b c)
max-assoc a b c = omega (arith, ints, clamps)

min-assoc : (a b c : ℤ) → int_min (int_min a b) c ≡ int_min a (int_min b c)
min-assoc a b c = omega (arith, ints, clamps)

cut-assoc : (q r s : Rect) → cut (cut q r) s ≡ cut q (cut r s)
cut-assoc q r s = rect_is _ _ _ _
    (point_is _ _ _ _ (max-assoc q.a.x r.a.x s.a.x) (max-assoc q.a.y r.a.y s.a.y))
    (point_is _ _ _ _ (min-assoc q.b.x r.b.x s.b.x) (min-assoc q.b.y r.b.y s.b.y))

pub sub-within : (r : Rect) (c : Canvas) (bounds : Rect) → sub (within r c) bounds ≡ within r (sub c bounds)
sub-within r c bounds = ap (λ k. let d : Canvas = record { clip = k; origin = (sub c bounds).origin } in d) (cut-assoc r c.clip (shifted bounds c.origin))

faces-within : (r : Rect) (c : Canvas) (bounds : Rect) (leaf : Leaf) (faces : List FaceOf)
    → map (Painted (sub (within r c) bounds) (natural leaf.node.w) (natural (height_of leaf.node.kind))) faces
    ≡ map (clipped r) (map (Painted (sub c bounds) (natural leaf.node.w) (natural (height_of leaf.node.kind))) faces)
faces-within r c bounds leaf [] = refl
faces-within r c bounds leaf (face ∷ faces) =
    ap (λ d. Painted d (natural leaf.node.w) (natural (height_of leaf.node.kind)) face ∷ map (Painted (sub (within r c) bounds) (natural leaf.node.w) (natural (height_of leaf.node.kind))) faces) (sub-within r c bounds)
    ∙ ap (λ layers. Painted (within r (sub c bounds)) (natural leaf.node.w) (natural (height_of leaf.node.kind)) face ∷ layers) (faces-within r c bounds leaf faces)

module _ (env : Env) (r : Rect) where
  leaf-at : (c : Canvas) (leaf : Leaf) (b : Bool) → leaf.is_shown ≡ b → leaf_layers env (within r c) leaf ≡ map (clipped r) (leaf_layers env c leaf)
  unfolding leaf_layers
  leaf-at c leaf true shown = rw shown (faces-within r c (bounds_of leaf) leaf (faces_of env leaf))
  leaf-at c leaf false hidden = rw hidden refl

  pub leaf-within : (c : Canvas) (leaf : Leaf) → leaf_layers env (within r c) leaf ≡ map (clipped r) (leaf_layers env c leaf)
  leaf-within c leaf = leaf-at c leaf leaf.is_shown refl

  near-within : (c : Canvas) (bounds : Rect) (around : List Rect) (leaf : Leaf) (b : Bool) → is_near (sub c bounds).origin ≡ b
      → layers_in env (sub (within r c) bounds) around leaf ≡ map (clipped r) (layers_in env (sub c bounds) around leaf)
      → layers_in env (within r c) (bounds ∷ around) leaf ≡ map (clipped r) (layers_in env c (bounds ∷ around) leaf)
  near-within c bounds around leaf true near inner = rw near inner
  near-within c bounds around leaf false far inner = rw far refl

  placed-within : (c : Canvas) (around : List Rect) (leaf : Leaf) → layers_in env (within r c) around leaf ≡ map (clipped r) (layers_in env c around leaf)
  placed-within c [] leaf = leaf-within c leaf
  placed-within c (bounds ∷ around) leaf =
      near-within c bounds around leaf (is_near (sub c bounds).origin) refl
      (ap (λ d. layers_in env d around leaf) (sub-within r c bounds) ∙ placed-within (sub c bounds) around leaf)

  -- a list of leaves
  pub leaves-within : (c : Canvas) (xs : List Placed) → leaves_layers env (within r c) xs ≡ map (clipped r) (leaves_layers env c xs)
  leaves-within c [] = refl
  leaves-within c (x ∷ xs) =
      ap (λ layers. layers ++ layers_in env (within r c) x.around x.leaf) (leaves-within c xs)
      ∙ ap (λ layers. map (clipped r) (leaves_layers env c xs) ++ layers) (placed-within c x.around x.leaf)
      ∙ sym (map-append (clipped r) (leaves_layers env c xs) (layers_in env c x.around x.leaf))
