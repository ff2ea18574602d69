-- What groups draw through an empty clip changes nothing.
use Rattle.std.proofs.Common.{◌≡◌, Bool, true, false, List, [], ◌∷◌, refl}
use Rattle.tv_cells.specs.Canvas.{sub}
use Rattle.tv_cells.specs.Picture.{Picture}
use Rattle.tv_cells.specs.Rectangle.{IsEmpty, shifted}
use Rattle.tv_cells.specs.declared.canvas.Canvas.{Canvas}
use Rattle.tv_cells.specs.declared.rect.Rect.{Rect}
use Rattle.tv_view.specs.Meaning.{Leaf, Placed, bounds_of}
use Rattle.tv_view.specs.declared.env.Env.{Env}
use Rattle.tv_view.specs.Drawing.{is_near, layers_in, leaves_layers}
use Rattle.tv_cells.specs.Layers.{Lays, ShowsSame}
use Rattle.tv_view.proofs.ClippingLemmas.{cut-empty, lays-nothing, leaf-out}
use Rattle.tv_view.proofs.SameLayerLemmas.{same_append, same_refl}

module _ (env : Env) where
  inner-out : (c : Canvas) (bounds : Rect) (around : List Rect) (leaf : Leaf) (b : Bool) → is_near (sub c bounds).origin ≡ b
      → ShowsSame (layers_in env (sub c bounds) around leaf) [] → ShowsSame (layers_in env c (bounds ∷ around) leaf) []
  inner-out c bounds around leaf true near inner = rw near inner
  inner-out c bounds around leaf false far inner = rw far (same_refl [])

  placed-out : (c : Canvas) (around : List Rect) (leaf : Leaf) → IsEmpty c.clip → ShowsSame (layers_in env c around leaf) []
  placed-out c [] leaf empty = leaf-out env c leaf (cut-empty c.clip (shifted (bounds_of leaf) c.origin) empty)
  placed-out c (bounds ∷ around) leaf empty =
      inner-out c bounds around leaf (is_near (sub c bounds).origin) refl
      (placed-out (sub c bounds) around leaf (cut-empty c.clip (shifted bounds c.origin) empty))

  leaves-out : (c : Canvas) (xs : List Placed) → IsEmpty c.clip → ShowsSame (leaves_layers env c xs) []
  leaves-out c [] empty = same_refl []
  leaves-out c (x ∷ xs) empty = same_append (leaves_layers env c xs) [] (layers_in env c x.around x.leaf) [] (leaves-out c xs empty) (placed-out c x.around x.leaf empty)

  -- leaves through an empty clip
  pub lays-clipped : (c : Canvas) (xs : List Placed) (p : Picture) → IsEmpty c.clip → Lays (leaves_layers env c xs) p p
  lays-clipped c xs p empty = lays-nothing (leaves_layers env c xs) p (leaves-out c xs empty)
