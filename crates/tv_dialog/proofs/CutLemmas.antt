-- A dialog that is drawn through a canvas that a rectangle of the screen cuts.
use Rattle.std.proofs.Common.{◌≡◌, [], ◌∷◌, ◌++◌, map, Option, sym, ap, ◌∙◌}
use Rattle.std.proofs.lemmas.List.{map-append}
use Rattle.tv_cells.specs.Canvas.{sub}
use Rattle.tv_cells.specs.Layers.{Layer, Painted}
use Rattle.tv_cells.specs.Picture.{Picture}
use Rattle.tv_cells.specs.Repainting.{clipped, within}
use Rattle.tv_cells.specs.Sheets.{inlaid}
use Rattle.tv_cells.specs.declared.canvas.Canvas.{Canvas}
use Rattle.tv_cells.specs.declared.rect.Rect.{Rect}
use Rattle.tv_model.specs.Description.Numbers.{natural}
use Rattle.tv_model.specs.Screen.Faces.{frame_face, frame_look}
use Rattle.tv_palette.specs.Palettes.{colour_in}
use Rattle.tv_palette.specs.declared.role.Owner.TheVariants as owners
use Rattle.tv_group.specs.Opened.{opened}
use Rattle.tv_view.specs.Drawing.{leaves_layers}
use Rattle.tv_view.specs.Meaning.{Leaf}
use Rattle.tv_view.specs.declared.env.Env.{Env}
use Rattle.tv_view.proofs.CutLemmas.{leaves-within, sub-within}
use Rattle.tv_dialog.specs.Bounds.{dialog_bounds}
use Rattle.tv_dialog.specs.Drawn.{dialog_frame_layer, drawn_dialog, lent}
use Rattle.tv_dialog.specs.Head.{KeptDialogHead}
use Rattle.tv_dialog.specs.declared.dialog.DialogOf.{DialogOf}

-- a frame in a canvas of its own
abbrev framed : Env → Canvas → Option Picture → KeptDialogHead → Layer
framed env place sheet head = Painted place (natural head.w) (natural head.h)
    (inlaid sheet (natural head.w) (natural head.h) (frame_face (natural head.w) (natural head.h) head.title
    (frame_look (colour_in env.chain.now) owners.Dialog 0 env.is_active)))

module _ {V : Type 0} (look : V → Leaf) (env : Env) (r : Rect) (c : Canvas) (dialog : DialogOf V) where
  frame-within : dialog_frame_layer env (within r c) dialog ≡ clipped r (dialog_frame_layer env c dialog)
  frame-within = ap (λ place. framed env place dialog.sheet dialog.head) (sub-within r c (dialog_bounds dialog))

  pub dialog-within : drawn_dialog look env (within r c) dialog ≡ map (clipped r) (drawn_dialog look env c dialog)
  dialog-within =
      let leaves = opened look dialog.body in
      let inner = sub c (dialog_bounds dialog) in
      let here = lent dialog.plan dialog.focus env in
      ap (λ layers. layers ++ dialog_frame_layer env (within r c) dialog ∷ [])
      (ap (λ place. leaves_layers here place leaves) (sub-within r c (dialog_bounds dialog)) ∙ leaves-within here r inner leaves)
      ∙ ap (λ layer. map (clipped r) (leaves_layers here inner leaves) ++ layer ∷ []) frame-within
      ∙ sym (map-append (clipped r) (leaves_layers here inner leaves) (dialog_frame_layer env c dialog ∷ []))
