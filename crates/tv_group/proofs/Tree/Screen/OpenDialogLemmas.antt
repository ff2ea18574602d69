-- The open dialog shows what the machine's layers show: its views, its frame and its shadow.
use Rattle.std.proofs.Common.{◌≡◌, IsTrue, Bool, true, List, [], ◌∷◌, ◌++◌, filter, flat_map, reverse, refl, ap, ◌∙◌, append_assoc, subst}
use Rattle.std.proofs.lemmas.Bool.{false≢true}
use Rattle.tv_cells.specs.Layers.{Layer, Painted, Shadow, ShowsSame}
use Rattle.tv_cells.specs.Rectangle.{sized}
use Rattle.tv_cells.specs.Sheets.{inlaid}
use Rattle.tv_model.specs.declared.desc.Desc.{Desc}
use Rattle.tv_model.specs.declared.desc.Dialog.{Dialog}
use Rattle.tv_model.specs.declared.node.Id.{Id}
use Rattle.tv_model.specs.declared.kind.Kind.{Kind}
use Rattle.tv_model.specs.declared.kind.Kind.TheVariants as kinds
use Rattle.tv_model.specs.Description.Rectangles.{IsSmall}
use Rattle.tv_model.specs.Description.Heads.{dialog_head}
use Rattle.tv_model.specs.Description.Nodes.{height_of, is_dialog}
use Rattle.tv_model.specs.Description.Numbers.{natural}
use Rattle.tv_model.specs.Screen.Faces.{FaceOf, FrameLook, frame_face, frame_look, frame_role}
use Rattle.tv_model.proofs.HeadLemmas.{dialog_head_of-Dialog}
use Rattle.tv_palette.proofs.ColourLemmas.{leads_through}
use Rattle.tv_palette.specs.Attributes.{attribute_of}
use Rattle.tv_palette.specs.Palettes.{colour_in}
use Rattle.tv_palette.specs.declared.role.Owner.TheVariants as owners
use Rattle.tv_palette.specs.declared.role.Role.TheVariants as roles
use Rattle.tv_palette.specs.declared.role.FrameRole.TheVariants as frame
use Rattle.tv_machine.specs.State.{OpenDialog}
use Rattle.tv_machine.specs.Leaves.{leaf_list}
use Rattle.tv_machine.specs.Dialog.Modal.{Modal}
use Rattle.tv_machine.specs.Dialog.Rules.{is_visible}
use Rattle.tv_machine.specs.Screen.Layers.{dialog_layers, dialog_leaf}
use Rattle.tv_view.specs.declared.env.Env.{Env}
use Rattle.tv_view.specs.Drawing.{leaves_layers}
use Rattle.tv_view.proofs.FrameLayerLemmas.{corner, frame_same, shadows_same}
use Rattle.tv_view.proofs.SameLayerLemmas.{same_append}
use Rattle.tv_machine.specs.Dialog.Lawful.{IsLawfulDialog}
use Rattle.tv_group.specs.Tree.{tree_of}
use Rattle.tv_group.specs.TreeTurns.{IsLentBy}
use Rattle.tv_group.specs.Shown.{IsAtWork, IsOfDialog, dialog_canvas, shadow_layer}
use Rattle.tv_group.proofs.Tree.Screen.DrawingLemmas.{HasOneDefault, views-same}

-- the height of its node is that of its head
pub dialog-tall : (d : Dialog) → height_of d.node.kind ≡ (dialog_head d).h
dialog-tall d = by_kind d.node.kind d.own_kind refl
  where
    by_kind : (k : Kind) (own : IsTrue (is_dialog k)) → d.node.kind ≡ k → height_of d.node.kind ≡ (dialog_head d).h
    by_kind (kinds.Dialog head) own e = rw (dialog_head_of-Dialog d.node.kind d.own_kind head e, e) refl
    by_kind _ own e = absurd (false≢true own)

frame-coloured : (env : Env) → IsOfDialog env → (is_active : Bool)
    → frame_look (colour_in env.chain.now) owners.Dialog 0 is_active ≡ frame_look attribute_of owners.Dialog 0 is_active
frame-coloured env of is_active =
    λ i. record {
      number = 0;
      is_active = is_active;
      edge = leads_through (roles.Frame owners.Dialog (frame_role is_active)) env.chain.now of.chain i;
      inside = leads_through (roles.Frame owners.Dialog frame.Body) env.chain.now of.chain i;
    }

-- the frame of the open dialog, with what it surrounds
abbrev pub frame_layer : Desc → Env → OpenDialog → Dialog → Layer
frame_layer desc env o d =
    Painted (dialog_canvas desc o d) (natural d.node.w) (natural (height_of d.node.kind))
    (inlaid o.sheet (natural d.node.w) (natural (height_of d.node.kind))
    (frame_face (natural d.node.w) (natural (height_of d.node.kind)) (dialog_head d).title
    (frame_look (colour_in env.chain.now) owners.Dialog 0 env.is_active)))

-- its views on top of it
abbrev pub tree_layers : Desc → Env → OpenDialog → Dialog → Modal → List Layer
tree_layers desc env o d m = leaves_layers env (dialog_canvas desc o d) (tree_of d m) ++ frame_layer desc env o d ∷ []

module _ (desc : Desc) (d : Dialog) (lawful : IsLawfulDialog d) (one : HasOneDefault d) (o : OpenDialog) (overwriting : List Id) (m : Modal)
    (work : IsAtWork o overwriting m) (env : Env) (lent : IsLentBy d m env) (of : IsOfDialog env) (active : env.is_active ≡ true)
    (at : IsSmall o.origin.x × IsSmall o.origin.y) where
  abbrev told : List Layer
  told = flat_map (dialog_leaf desc d o overwriting) (reverse (filter (is_visible d o.leaves) (leaf_list d.views)))

  abbrev frame_at : FrameLook → Layer
  frame_at look =
      Painted (corner desc o.origin.x o.origin.y d.node.w (height_of d.node.kind)) (natural d.node.w) (natural (height_of d.node.kind))
      (inlaid o.sheet (natural d.node.w) (natural (height_of d.node.kind)) (frame_face (natural d.node.w) (natural (height_of d.node.kind)) (dialog_head d).title look))

  abbrev shadow_at : Layer
  shadow_at =
      Shadow (corner desc o.origin.x o.origin.y d.node.w (height_of d.node.kind))
      (sized (natural d.node.w) (natural (height_of d.node.kind)))

  abbrev told_look : FrameLook
  told_look = frame_look attribute_of owners.Dialog 0 true

  machine-layers : (told ++ frame_at told_look ∷ []) ++ shadow_at ∷ [] ≡ dialog_layers desc o overwriting d
  machine-layers =
      append_assoc told (frame_at told_look ∷ []) (shadow_at ∷ [])
      ∙ ap (λ h. told
      ++ Painted (corner desc o.origin.x o.origin.y d.node.w h) (natural d.node.w) (natural h)
      (inlaid o.sheet (natural d.node.w) (natural h) (frame_face (natural d.node.w) (natural h) (dialog_head d).title told_look))
      ∷ Shadow (corner desc o.origin.x o.origin.y d.node.w h) (sized (natural d.node.w) (natural h)) ∷ []) (dialog-tall d)

  -- the open dialog with its shadow shows what the machine's layers show
  pub dialog-same : ShowsSame (tree_layers desc env o d m ++ shadow_layer desc o d ∷ []) (dialog_layers desc o overwriting d)
  dialog-same =
      let h = height_of d.node.kind in
      let face : FrameLook → FaceOf = λ look. inlaid o.sheet (natural d.node.w) (natural h) (frame_face (natural d.node.w) (natural h) (dialog_head d).title look) in
      let seen = frame_look (colour_in env.chain.now) owners.Dialog 0 env.is_active in
      let looks : seen ≡ told_look =
      frame-coloured env of env.is_active ∙ ap (frame_look attribute_of owners.Dialog 0) active in
      let framed : ShowsSame (frame_layer desc env o d ∷ []) (frame_at told_look ∷ []) =
      frame_same desc o.origin.x o.origin.y d.node.w h (face seen) (face told_look) (ap face looks) in
      let views : ShowsSame (tree_layers desc env o d m) (told ++ frame_at told_look ∷ []) =
      same_append (leaves_layers env (dialog_canvas desc o d) (tree_of d m)) told (frame_layer desc env o d ∷ []) (frame_at told_look ∷ [])
      (views-same desc d lawful one o overwriting m work env lent of at) framed in
      subst (λ layers. ShowsSame (tree_layers desc env o d m ++ shadow_layer desc o d ∷ []) layers) machine-layers
      (same_append (tree_layers desc env o d m) (told ++ frame_at told_look ∷ []) (shadow_layer desc o d ∷ []) (shadow_at ∷ []) views
      (shadows_same desc o.origin.x o.origin.y d.node.w h))
