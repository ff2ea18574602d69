-- Windows that are drawn through a canvas that a rectangle of the screen cuts.
use Rattle.std.proofs.Common.{◌≡◌, List, [], ◌∷◌, ◌++◌, map, sym, ap, ◌∙◌}
use Rattle.std.proofs.lemmas.List.{map-append}
use Rattle.tv_cells.specs.Canvas.{sub}
use Rattle.tv_cells.specs.Layers.{Layer, ShowsSame}
use Rattle.tv_cells.specs.Repainting.{clipped, within}
use Rattle.tv_cells.specs.declared.canvas.Canvas.{Canvas}
use Rattle.tv_cells.specs.declared.rect.Rect.{Rect}
use Rattle.tv_cells.proofs.RepaintingLemmas.{same-clipped}
use Rattle.tv_group.specs.Opened.{opened}
use Rattle.tv_view.specs.Drawing.{leaves_layers}
use Rattle.tv_view.specs.Meaning.{Leaf}
use Rattle.tv_view.specs.declared.env.Env.{Env}
use Rattle.tv_view.proofs.CutLemmas.{leaves-within, sub-within}
use Rattle.tv_window.specs.Window.{drawn_window, window_bounds, window_frame_layer}
use Rattle.tv_window.specs.declared.window.WindowOf.{WindowOf}

-- what shows the same shows the same where it is cut
pub clipped-same : (r : Rect) (xs ys : List Layer) → ShowsSame xs ys → ShowsSame (map (clipped r) xs) (map (clipped r) ys)
clipped-same r xs ys same = record { each = same-clipped r xs ys same.each }

module _ {V : Type 0} (look : V → Leaf) (env : Env) (r : Rect) (c : Canvas) where
  pub window-within : (window : WindowOf V) → drawn_window look env (within r c) window ≡ map (clipped r) (drawn_window look env c window)
  window-within window =
      let leaves = opened look window.body in
      let inner = sub c (window_bounds window) in
      let place = sub-within r c (window_bounds window) in
      ap (λ layers. layers ++ window_frame_layer env (sub (within r c) (window_bounds window)) window.sheet window.head ∷ [])
      (ap (λ canvas. leaves_layers env canvas leaves) place ∙ leaves-within env r inner leaves)
      ∙ ap (λ canvas. map (clipped r) (leaves_layers env inner leaves) ++ window_frame_layer env canvas window.sheet window.head ∷ []) place
      ∙ sym (map-append (clipped r) (leaves_layers env inner leaves) (window_frame_layer env inner window.sheet window.head ∷ []))
