-- What a dialog draws is what the machine shows of the open one.
use Rattle.std.proofs.Common.{◌≡◌, ◌∙◌, IsTrue, List, [], ◌∷◌, ◌++◌, ℤ, ℕ, Option, Some, ap, map, sym, subst, refl}
use Rattle.std.proofs.lemmas.Bool.{false≢true}
use Rattle.std.proofs.lemmas.List.{map-append}
use Rattle.tv_cells.specs.Canvas.{sub}
use Rattle.tv_cells.specs.Layers.{Layer, Painted, Shadow, Lays, ShowsSame}
use Rattle.tv_cells.specs.Picture.{Picture}
use Rattle.tv_cells.specs.Repainting.{clipped, within}
use Rattle.tv_cells.specs.Sheets.{inlaid}
use Rattle.tv_cells.specs.declared.canvas.Canvas.{Canvas}
use Rattle.tv_cells.specs.declared.rect.Rect.{Rect}
use Rattle.tv_cells.proofs.RepaintingLemmas.{same-clipped}
use Rattle.tv_model.specs.declared.node.Id.{Id}
use Rattle.tv_model.specs.declared.node.Node.{Node}
use Rattle.tv_model.specs.declared.kind.Kind.{Kind}
use Rattle.tv_model.specs.declared.kind.Kind.TheVariants as kinds
use Rattle.tv_model.specs.declared.desc.Desc.{Desc}
use Rattle.tv_model.specs.declared.desc.Dialog.{Dialog}
use Rattle.tv_model.specs.Description.Rectangles.{IsSmall, IsSmallRect, rect}
use Rattle.tv_view.specs.Meaning.{Leaf}
use Rattle.tv_model.specs.Description.Heads.{dialog_head, dialog_head_of}
use Rattle.tv_model.specs.Description.Nodes.{height_of, is_dialog}
use Rattle.tv_model.specs.Description.Numbers.{natural}
use Rattle.tv_model.specs.Screen.Faces.{frame_face, frame_look}
use Rattle.tv_palette.specs.Palettes.{colour_in}
use Rattle.tv_palette.specs.declared.role.Owner.TheVariants as owners
use Rattle.tv_machine.specs.State.{OpenDialog}
use Rattle.tv_machine.specs.Dialog.Lawful.{IsLawfulDialog}
use Rattle.tv_machine.specs.Dialog.Modal.{Modal}
use Rattle.tv_machine.specs.Screen.Layers.{dialog_layers}
use Rattle.tv_group.specs.Opened.{opened}
use Rattle.tv_view.specs.declared.env.Env.{Env}
use Rattle.tv_view.specs.Drawing.{leaves_layers}
use Rattle.tv_view.proofs.LayingLemmas.{lays_as, lays_then}
use Rattle.tv_view.proofs.SameLayerLemmas.{lays_same}
use Rattle.tv_dialog.specs.Bounds.{dialog_bounds}
use Rattle.tv_dialog.specs.Drawn as drawn
use Rattle.tv_dialog.specs.Drawn.{lent}
use Rattle.tv_dialog.specs.Head.{KeptDialogHead, declared_dialog_head}
use Rattle.tv_group.specs.Shown.{IsShown, desktop_canvas, dialog_canvas, open_bounds, shadow_layer}
use Rattle.tv_dialog.specs.Standing.{Stands}
use Rattle.tv_group.specs.Tree.{tree_of}
use Rattle.tv_dialog.specs.declared.dialog.DialogOf.{DialogOf}
use Rattle.tv_group.proofs.Tree.Screen.OpenDialogLemmas.{dialog-same, dialog-tall, tree_layers}
use Rattle.tv_dialog.proofs.CutLemmas.{dialog-within}
use Rattle.tv_dialog.proofs.TurnCodeLemmas.{lent-by}

-- what a dialog keeps of its node
abbrev own_head : Dialog → KeptDialogHead
own_head d = record {
  id = d.node.id;
  w = d.node.w;
  h = (dialog_head d).h;
  title = (dialog_head d).title;
  ends = (dialog_head d).ends;
}

kept_is : (node : Node) (kind : Kind) (is : IsTrue (is_dialog kind)) (head : KeptDialogHead) → Some head ≡ declared_dialog_head (record node { kind = kind })
    → head ≡ record {
      id = node.id;
      w = node.w;
      h = (dialog_head_of kind is).h;
      title = (dialog_head_of kind is).title;
      ends = (dialog_head_of kind is).ends;
    }
kept_is node (kinds.Dialog own) is head e = cc
kept_is node _ is head e = absurd (false≢true is)

head-is : (d : Dialog) (head : KeptDialogHead) → Some head ≡ declared_dialog_head d.node → head ≡ own_head d
head-is d head e = kept_is d.node d.node.kind d.own_kind head e

-- a frame by its canvas, its sheet, its size and its title
abbrev framed : Env → Canvas → Option Picture → ℤ → ℤ → List ℕ → Layer
framed env c sheet w h title =
    Painted c (natural w) (natural h) (inlaid sheet (natural w) (natural h) (frame_face (natural w) (natural h) title (frame_look (colour_in env.chain.now) owners.Dialog 0 env.is_active)))

module _ {V : Type 0} (look : V → Leaf) (desc : Desc) (d : Dialog) (o : OpenDialog) (overwriting : List Id) (m : Modal) (env : Env)
    (dialog : DialogOf V) (own : IsLawfulDialog d) (s : Stands look d m.leaves m dialog) (shown : IsShown d o overwriting m env)
    (at : dialog.corner ≡ o.origin) (lies : dialog.sheet ≡ o.sheet) (small : IsSmallRect (dialog_bounds dialog)) where
  abbrev here : Env
  here = lent dialog.plan dialog.focus env

  abbrev layers : List Layer
  layers = drawn.drawn_dialog look env (desktop_canvas desc) dialog

  bounds-are : dialog_bounds dialog ≡ open_bounds o d
  bounds-are =
      ap (λ h. rect dialog.corner.x dialog.corner.y h.w h.h) (head-is d dialog.head s.head)
      ∙ ap (λ h. rect dialog.corner.x dialog.corner.y d.node.w h) (sym (dialog-tall d))
      ∙ ap (λ p. rect p.x p.y d.node.w (height_of d.node.kind)) at

  layers-are : layers ≡ tree_layers desc here o d m
  layers-are =
      ap (λ r. leaves_layers here (sub (desktop_canvas desc) r) (opened look dialog.body) ++ framed env (sub (desktop_canvas desc) r) dialog.sheet dialog.head.w dialog.head.h dialog.head.title ∷ []) bounds-are
      ∙ ap (λ xs. leaves_layers here (dialog_canvas desc o d) xs ++ framed env (dialog_canvas desc o d) dialog.sheet dialog.head.w dialog.head.h dialog.head.title ∷ []) s.tree
      ∙ ap (λ sheet. leaves_layers here (dialog_canvas desc o d) (tree_of d m) ++ framed env (dialog_canvas desc o d) sheet dialog.head.w dialog.head.h dialog.head.title ∷ []) lies
      ∙ ap (λ k. leaves_layers here (dialog_canvas desc o d) (tree_of d m) ++ framed env (dialog_canvas desc o d) o.sheet k.w k.h k.title ∷ []) (head-is d dialog.head s.head)
      ∙ ap (λ h. leaves_layers here (dialog_canvas desc o d) (tree_of d m) ++ framed env (dialog_canvas desc o d) o.sheet d.node.w h (dialog_head d).title ∷ []) (sym (dialog-tall d))

  over-shadow : ShowsSame (layers ++ shadow_layer desc o d ∷ []) (dialog_layers desc o overwriting d)
  over-shadow =
      subst (λ xs. ShowsSame (xs ++ shadow_layer desc o d ∷ []) (dialog_layers desc o overwriting d)) (sym layers-are)
      (dialog-same desc d own own.defaults o overwriting m shown.work here
      (lent-by d m dialog.plan dialog.focus env here s.plan s.focus shown.views refl)
      (record { owner = shown.palettes.owner; chain = shown.palettes.chain }) shown.active
      (subst (λ p. IsSmall p.x × IsSmall p.y) at (small.left, small.top)))

  -- over its shadow it shows what the machine's layers show
  pub dialog-shows : ShowsSame (layers ++ Shadow (desktop_canvas desc) (dialog_bounds dialog) ∷ []) (dialog_layers desc o overwriting d)
  dialog-shows =
      subst (λ r. ShowsSame (layers ++ Shadow (desktop_canvas desc) r ∷ []) (dialog_layers desc o overwriting d)) (sym bounds-are) over-shadow

  -- and so it does through a canvas that a rectangle cuts
  pub dialog-shown : (r : Rect) (c : Canvas) → c ≡ within r (desktop_canvas desc) → (old mid new : Picture) → Lays (clipped r (shadow_layer desc o d) ∷ []) old mid
      → Lays (drawn.drawn_dialog look env c dialog) mid new → Lays (map (clipped r) (dialog_layers desc o overwriting d)) old new
  dialog-shown r c seen old mid new shadow laid =
      let shade = shadow_layer desc o d in
      let same : drawn.drawn_dialog look env c dialog ≡ map (clipped r) layers =
      ap (λ k. drawn.drawn_dialog look env k dialog) seen ∙ dialog-within look env r (desktop_canvas desc) dialog in
      lays_same (map (clipped r) (layers ++ shade ∷ [])) (map (clipped r) (dialog_layers desc o overwriting d)) old new
      (record { each = same-clipped r (layers ++ shade ∷ []) (dialog_layers desc o overwriting d) over-shadow.each })
      (lays_as (map (clipped r) layers ++ clipped r shade ∷ []) (map (clipped r) (layers ++ shade ∷ [])) old new (sym (map-append (clipped r) layers (shade ∷ [])))
      (lays_then (clipped r shade ∷ []) (map (clipped r) layers) old mid new shadow
      (lays_as (drawn.drawn_dialog look env c dialog) (map (clipped r) layers) mid new same laid)))
