-- Leaves in a frame that are drawn alike.
use Rattle.std.proofs.Common.{◌≡◌, ℕ, pos, false, List, [], ◌∷◌, ◌++◌, refl, ◌∙◌}
use Rattle.tv_cells.specs.Canvas.{sub}
use Rattle.tv_cells.specs.Damage.{HasWithin}
use Rattle.tv_cells.specs.Glyph.{Glyph}
use Rattle.tv_cells.specs.Layers.{Layer, Painted, cell_over, is_in, over}
use Rattle.tv_cells.specs.Rectangle.{shifted}
use Rattle.tv_cells.specs.declared.canvas.Canvas.{Canvas}
use Rattle.tv_cells.specs.declared.rect.Rect.{Rect}
use Rattle.tv_cells.proofs.RepaintingLemmas.{over-append}
use Rattle.tv_model.specs.Screen.Faces.{FaceOf}
use Rattle.tv_view.specs.Damage.{AllDamages, AllDrawn, IsDrawnAlike}
use Rattle.tv_view.specs.Drawing.{leaves_layers}
use Rattle.tv_view.specs.Meaning.{Placed}
use Rattle.tv_view.specs.declared.env.Env.{Env}
use Rattle.tv_view.proofs.DamageLemmas.{alike-append, alike-more, alike-refl, alike-then, leaves-clipped, pane-alike}
use Rattle.tv_view.proofs.OffLemmas.{clip-off}

-- ---- leaves

pub all-drawn-then : (xs ys zs : List Placed) (a b c : List Rect) → AllDrawn xs ys a b → AllDrawn ys zs b c → AllDrawn xs zs a c
all-drawn-then xs ys zs a b c p q = record {
  drawn = λ env.
      alike-then c (λ k. leaves_layers env k xs) (λ k. leaves_layers env k ys) (λ k. leaves_layers env k zs)
      (alike-more b c (λ k. leaves_layers env k xs) (λ k. leaves_layers env k ys) q.kept (p.drawn env)) (q.drawn env);
  kept = λ x y e. q.kept x y (p.kept x y e);
}

pub all-drawn-of : (bounds : Rect) (xs ys : List Placed) (a b : List Rect) → AllDamages bounds xs ys a b → AllDrawn xs ys a b
all-drawn-of bounds xs ys a b p = record { drawn = p.drawn; kept = p.grown.kept }

-- ---- leaves over the frame round them

module _ (env other : Env) (bounds : Rect) (xs ys : List Placed) (width height : ℕ) where
  abbrev framed : Env → List Placed → FaceOf → Canvas → List Layer
  framed e zs face c = leaves_layers e (sub c bounds) zs ++ Painted (sub c bounds) width height face ∷ []

  pub framed-alike : (face : FaceOf) (inner outer : List Rect) → HasWithin bounds inner outer
      → IsDrawnAlike inner (λ c. leaves_layers env c xs) (λ c. leaves_layers other c ys)
      → IsDrawnAlike outer (framed env xs face) (framed other ys face)
  framed-alike face inner outer all alike =
      alike-append outer (λ c. leaves_layers env (sub c bounds) xs) (λ c. leaves_layers other (sub c bounds) ys)
      (λ c. Painted (sub c bounds) width height face ∷ []) (λ c. Painted (sub c bounds) width height face ∷ [])
      (pane-alike bounds inner outer all (λ c. leaves_layers env c xs) (λ c. leaves_layers other c ys) alike
      (λ c column row under out. leaves-clipped env column row c xs under out) (λ c column row under out. leaves-clipped other column row c ys under out))
      (alike-refl outer (λ c. Painted (sub c bounds) width height face ∷ []))

-- outside their rectangle nothing is drawn
module _ (env : Env) (bounds : Rect) (xs : List Placed) (width height : ℕ) (face : FaceOf) (c : Canvas) (column row : ℕ) (under : Glyph) where
  frame-clipped : is_in (sub c bounds).clip (pos column) (pos row) ≡ false → over (Painted (sub c bounds) width height face) column row under ≡ under
  frame-clipped out = rw out refl

  pub framed-outside : is_in (shifted bounds c.origin) (pos column) (pos row) ≡ false
      → cell_over (leaves_layers env (sub c bounds) xs ++ Painted (sub c bounds) width height face ∷ []) column row under ≡ under
  framed-outside out =
      let gone = clip-off bounds c column row out in
      over-append (leaves_layers env (sub c bounds) xs) (Painted (sub c bounds) width height face ∷ []) column row under
      ∙ leaves-clipped env column row (sub c bounds) xs (over (Painted (sub c bounds) width height face) column row under) gone
      ∙ frame-clipped gone
