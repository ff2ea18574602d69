-- What is drawn through an empty clip changes nothing.
use Rattle.std.proofs.Common.{◌≡◌, ℕ, pos, Bool, true, false, List, [], ◌∷◌, map, refl, sym}
use Rattle.tv_cells.specs.Canvas.{sub}
use Rattle.tv_cells.specs.Layers.{Layer, Painted, is_in, Lays, ShowsSame}
use Rattle.tv_cells.specs.Picture.{Picture}
use Rattle.tv_cells.specs.Rectangle.{IsEmpty, cut}
use Rattle.tv_cells.specs.declared.canvas.Canvas.{Canvas}
use Rattle.tv_cells.specs.declared.rect.Rect.{Rect}
use Rattle.tv_cells.proofs.LayerLemmas.{is_in_true}
use Rattle.tv_cells.proofs.RectangleLemmas.{in_cut}
use Rattle.tv_model.specs.Description.Numbers.{natural}
use Rattle.tv_model.specs.Description.Nodes.{height_of}
use Rattle.tv_model.specs.Screen.Faces.{FaceOf}
use Rattle.tv_view.specs.Meaning.{Leaf, bounds_of}
use Rattle.tv_view.specs.declared.env.Env.{Env}
use Rattle.tv_view.specs.Drawing.{faces_of, leaf_layers}
use Rattle.tv_view.proofs.LayingLemmas.{lays_none}
use Rattle.tv_view.proofs.SameLayerLemmas.{lays_same, same_append, same_refl}

-- what is cut from nothing is nothing
pub cut-empty : (r s : Rect) → IsEmpty r → IsEmpty (cut r s)
cut-empty r s empty x y i = empty x y ((in_cut r s x y).0 i).0

out-at : (r : Rect) (column row : ℕ) (b : Bool) → is_in r (pos column) (pos row) ≡ b → IsEmpty r → is_in r (pos column) (pos row) ≡ false
out-at r column row false e empty = e
out-at r column row true e empty = absurd (empty (pos column) (pos row) (is_in_true r (pos column) (pos row) e))

out : (r : Rect) (column row : ℕ) → IsEmpty r → is_in r (pos column) (pos row) ≡ false
out r column row empty = out-at r column row (is_in r (pos column) (pos row)) refl empty

pub lays-nothing : (xs : List Layer) (p : Picture) → ShowsSame xs [] → Lays xs p p
lays-nothing xs p same = lays_same [] xs p p (record { each = λ column row under. sym (same.each column row under) }) (lays_none p)

painted-out : (c : Canvas) (width height : ℕ) (face : FaceOf) → IsEmpty c.clip → ShowsSame (Painted c width height face ∷ []) []
painted-out c width height face empty = record { each = λ column row under. rw (out c.clip column row empty) refl }

faces-out : (c : Canvas) (width height : ℕ) (faces : List FaceOf) → IsEmpty c.clip → ShowsSame (map (Painted c width height) faces) []
faces-out c width height [] empty = same_refl []
faces-out c width height (face ∷ faces) empty =
    same_append (Painted c width height face ∷ []) [] (map (Painted c width height) faces) [] (painted-out c width height face empty) (faces-out c width height faces empty)

module _ (env : Env) where
  leaf-at : (c : Canvas) (leaf : Leaf) (b : Bool) → leaf.is_shown ≡ b → IsEmpty (sub c (bounds_of leaf)).clip → ShowsSame (leaf_layers env c leaf) []
  unfolding leaf_layers
  leaf-at c leaf true shown empty =
      rw shown (faces-out (sub c (bounds_of leaf)) (natural leaf.node.w) (natural (height_of leaf.node.kind)) (faces_of env leaf) empty)
  leaf-at c leaf false hidden empty = rw hidden (same_refl [])

  pub leaf-out : (c : Canvas) (leaf : Leaf) → IsEmpty (sub c (bounds_of leaf)).clip → ShowsSame (leaf_layers env c leaf) []
  leaf-out c leaf empty = leaf-at c leaf leaf.is_shown refl empty

  -- a hidden leaf
  pub lays-hidden : (c : Canvas) (leaf : Leaf) (p : Picture) → leaf.is_shown ≡ false → Lays (leaf_layers env c leaf) p p
  unfolding leaf_layers
  lays-hidden c leaf p hidden = rw hidden (lays_none p)

  -- a leaf whose rectangle misses the clip
  pub lays-missed : (c : Canvas) (leaf : Leaf) (p : Picture) → IsEmpty (sub c (bounds_of leaf)).clip → Lays (leaf_layers env c leaf) p p
  lays-missed c leaf p empty = lays-nothing (leaf_layers env c leaf) p (leaf-out c leaf empty)
