-- The open dialog with its shadow on the screen.
use Rattle.std.proofs.Common.{◌≡◌, List, [], ◌∷◌, ℕ, Some, IsTrue, map, refl, sym, ap, subst, ◌∙◌}
use Rattle.std.specs.Prelude.{slice_get, slice_index_or}
use Rattle.std.proofs.lemmas.Bool.{false≢true}
use Rattle.std.proofs.lemmas.Option.{unwrap_or-slice_get}
use Rattle.tv_cells.specs.Layers.{Shadow, Lays}
use Rattle.tv_cells.specs.Picture.{Picture}
use Rattle.tv_cells.specs.Repainting.{clipped, within}
use Rattle.tv_cells.specs.declared.canvas.Canvas.{Canvas}
use Rattle.tv_cells.specs.declared.rect.Point.{Point}
use Rattle.tv_cells.specs.declared.rect.Rect.{Rect}
use Rattle.tv_model.specs.declared.desc.Desc.{Desc}
use Rattle.tv_model.specs.declared.desc.Dialog.{Dialog}
use Rattle.tv_model.specs.declared.node.Id.{Id}
use Rattle.tv_model.specs.declared.node.Node.{Node}
use Rattle.tv_model.specs.declared.kind.Kind.{Kind}
use Rattle.tv_model.specs.declared.kind.Kind.TheVariants as kinds
use Rattle.tv_view.specs.Meaning.{Leaf}
use Rattle.tv_model.specs.Description.Nodes.{height_of, is_dialog}
use Rattle.tv_model.specs.Description.Rectangles.{rect}
use Rattle.tv_machine.specs.State.{OpenDialog, State}
use Rattle.tv_machine.specs.Dialog.Lawful.{IsLawfulDialog}
use Rattle.tv_machine.specs.Dialog.Modal.{Modal}
use Rattle.tv_machine.specs.Screen.Layers.{dialog_layers, open_layers}
use Rattle.tv_laws.specs.Runs.{HasSoundDialogs}
use Rattle.tv_laws.proofs.WorkLemmas.{sound-at}
use Rattle.tv_group.specs.Shown.{IsAtWork, desktop_canvas, open_bounds, shadow_layer}
use Rattle.tv_view.proofs.LayingLemmas.{lays_as}
use Rattle.tv_dialog.specs.Bounds.{dialog_bounds}
use Rattle.tv_dialog.specs.Head.{KeptDialogHead, declared_dialog_head, kept_dialog_head}
use Rattle.tv_dialog.specs.Standing.{Stands}
use Rattle.tv_dialog.specs.declared.dialog.DialogOf.{DialogOf}
use Rattle.tv_dialogs.specs.Dialogs.{AreDialogs, at_work}
use Rattle.tv_dialogs.specs.declared.kept.Kept.{Kept}
use Rattle.tv_dialogs.specs.declared.dialogs.DialogsOf.{DialogsOf}
use Rattle.tv_dialogs.proofs.PlacedLemmas.{place-told, read-declared, read-kept}

-- a dialog is as large as its node
pub sizes_are : (node : Node) (kind : Kind) → IsTrue (is_dialog kind) → (head : KeptDialogHead) → Some head ≡ declared_dialog_head (record node { kind = kind })
    → (p : Point) → rect p.x p.y head.w head.h ≡ rect p.x p.y node.w (height_of kind)
sizes_are node (kinds.Dialog own) is head e p = let same : head ≡ kept_dialog_head (record node { kind = kinds.Dialog own }) own = cc in ap (λ h. rect p.x p.y h.w h.h) same
sizes_are node _ is head e p = absurd (false≢true is)

-- its shadow is the machine's
pub shadow-laid : {V : Type 0} (look : V → Leaf) (desc : Desc) (r : Rect) (d : Dialog) (o : OpenDialog) (m : Modal) (dialog : DialogOf V) (c : Canvas) (bounds : Rect) (old new : Picture)
    → Stands look d m.leaves m dialog → dialog.corner ≡ o.origin → c ≡ within r (desktop_canvas desc) → bounds ≡ dialog_bounds dialog
    → Lays (Shadow c bounds ∷ []) old new → Lays (clipped r (shadow_layer desc o d) ∷ []) old new
shadow-laid look desc r d o m dialog c bounds old new s corner desktop is laid =
    let same : Shadow c bounds ≡ clipped r (shadow_layer desc o d) =
    ap (λ k. Shadow k bounds) desktop ∙ ap (Shadow (within r (desktop_canvas desc))) (is ∙ sizes_are d.node d.node.kind d.own_kind dialog.head s.head dialog.corner
    ∙ ap (λ p. open_bounds (record o { origin = p }) d) corner) in
    subst (λ layer. Lays (layer ∷ []) old new) same laid

module _ {V : Type 0} (look : V → Leaf) (d : Desc) (r : Rect) (s : State) (dialogs : DialogsOf V) (are : AreDialogs look d s dialogs) where
  -- one is open, and is drawn as the machine's
  pub some-shown : (o : OpenDialog) (dialog : Dialog) (old new : Picture) → s.dialog ≡ Some o → slice_get d.dialogs o.place ≡ Some dialog
      → Lays (map (clipped r) (dialog_layers d o (slice_index_or s.overwriting o.place []) dialog)) old new → Lays (map (clipped r) (open_layers d s.overwriting s.dialog)) old new
  some-shown o dialog old new some there laid =
      let same : open_layers d s.overwriting (Some o) ≡ dialog_layers d o (slice_index_or s.overwriting o.place []) dialog = rw there refl in
      lays_as (map (clipped r) (dialog_layers d o (slice_index_or s.overwriting o.place []) dialog)) (map (clipped r) (open_layers d s.overwriting s.dialog)) old new
      (ap (map (clipped r)) (sym (ap (open_layers d s.overwriting) some ∙ same))) laid

  -- what is read at its place is drawn
  module _ (place : ℕ) (opens : dialogs.open ≡ Some place) (declared : Dialog) (kept : Kept V)
      (reads : declared ≡ slice_index_or d.dialogs place declared) (has : kept ≡ slice_index_or dialogs.kept.items place kept) where
    pub read-shown : (old new : Picture) → HasSoundDialogs d → ((o : OpenDialog) (overwriting : List Id) (m : Modal) → IsLawfulDialog declared
        → Stands look declared m.leaves m kept.dialog → IsAtWork o overwriting m → kept.dialog.corner ≡ o.origin → kept.dialog.sheet ≡ o.sheet
        → Lays (map (clipped r) (dialog_layers d o overwriting declared)) old new) → Lays (map (clipped r) (open_layers d s.overwriting s.dialog)) old new
    read-shown old new sound draws =
        let told = place-told look d s dialogs are place opens in
        let o = told.0 in
        let among = are.at o told.1 in
        let same = sym (read-declared look d s dialogs are place opens o told.1 declared reads) in
        let m = at_work s o among.kept.dialog.log.items in
        let there : slice_get d.dialogs o.place ≡ Some declared = among.there ∙ ap (λ x. Some x) same in
        let work : IsAtWork o (slice_index_or s.overwriting o.place []) m = record { leaves = refl; focus = refl; overwriting_in = unwrap_or-slice_get s.overwriting o.place [] } in
        some-shown o declared old new told.1 there
        (draws o (slice_index_or s.overwriting o.place []) m (sound-at d sound o.place declared there).lawful
        (subst (λ k. Stands look declared o.leaves m k.dialog) (sym (read-kept look d s dialogs are place opens o told.1 kept has))
        (subst (λ x. Stands look x o.leaves m among.kept.dialog) same among.stands))
        work (ap (λ k. k.dialog.corner) (read-kept look d s dialogs are place opens o told.1 kept has) ∙ among.corner)
        (ap (λ k. k.dialog.sheet) (read-kept look d s dialogs are place opens o told.1 kept has) ∙ among.sheet))
