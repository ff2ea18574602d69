-- Where the open dialog is taken hold of.
use Rattle.std.proofs.Common.{◌≡◌, ◌∙◌, ap, arith, refl, sym, ℤ, ◌+ℤ◌, ◌-ℤ◌, Bool, true, false, if◌then◌else◌, IsTrue, Some, None, option_map}
use Rattle.std.specs.Bool.{then_some}
use Rattle.std.proofs.lemmas.Bool.{false≢true}
use Rattle.std.proofs.lemmas.Int.{ints}
use Rattle.std.specs.Prelude.{slice_get}
use Rattle.tv_cells.specs.declared.rect.Point.{Point}
use Rattle.tv_cells.specs.declared.rect.Rect.{Rect}
use Rattle.tv_model.specs.Description.Nodes.{is_dialog}
use Rattle.tv_model.specs.declared.desc.Desc.{Desc}
use Rattle.tv_model.specs.declared.kind.Kind.{Kind}
use Rattle.tv_model.specs.declared.kind.Kind.TheVariants as kinds
use Rattle.tv_model.specs.declared.node.Node.{Node}
use Rattle.tv_machine.specs.Session.Desktop.{seen_from}
use Rattle.tv_machine.specs.Session.Dragging.{is_grip, is_grip_of}
use Rattle.tv_machine.specs.State.{OpenDialog, State}
use Rattle.tv_view.specs.Meaning.{Leaf}
use Rattle.tv_dialog.specs.Bounds.{dialog_bounds}
use Rattle.tv_dialog.specs.Head.{KeptDialogHead, declared_dialog_head, kept_dialog_head}
use Rattle.tv_dialogs.specs.Dialogs.{AreDialogs, IsOpenAmong, kept_at}
use Rattle.tv_dialogs.specs.declared.kept.Kept.{Kept}
use Rattle.tv_dialogs.specs.declared.dialogs.DialogsOf.{DialogsOf}
use Rattle.tv_dialogs.proofs.PlaceLemmas.{same-some}

-- a dialog is as wide as its node
width_is : (node : Node) (kind : Kind) → IsTrue (is_dialog kind) → (head : KeptDialogHead) → Some head ≡ declared_dialog_head (record node { kind = kind }) → head.w ≡ node.w
width_is node (kinds.Dialog own) is head e = let same : head ≡ kept_dialog_head (record node { kind = kinds.Dialog own }) own = cc in ap (λ h. h.w) same
width_is node _ is head e = absurd (false≢true is)

between : (x w : ℤ) → (x +ℤ w) -ℤ x ≡ w
between x w = omega (arith, ints)

if_held : (b : Bool) (p : Point) → then_some b p ≡ (if b then Some p else None)
if_held true p = refl
if_held false p = refl

module _ {V : Type 0} (look : V → Leaf) (d : Desc) (s : State) (dialogs : DialogsOf V) (are : AreDialogs look d s dialogs) (o : OpenDialog) (is : s.dialog ≡ Some o) where
  abbrev among : IsOpenAmong look d s o dialogs.kept.items
  among = are.at o is

  -- by the corner that it stands at, and how wide it is
  pub gripped : (k : Kept V) → Some k ≡ kept_at dialogs dialogs.open → (corner : Point) (bounds : Rect) (width : ℤ) (point seen : Point)
      → corner ≡ k.dialog.corner → bounds ≡ dialog_bounds k.dialog → width ≡ bounds.b.x -ℤ corner.x → seen ≡ seen_from corner point
      → then_some (is_grip width seen) corner ≡ (if is_grip_of (slice_get d.dialogs o.place) (seen_from o.origin point) then Some o.origin else None)
  gripped k e corner bounds width point seen at within across sees =
      let same : k ≡ among.kept = same-some k among.kept (e ∙ ap (kept_at dialogs) (are.place ∙ ap (λ x. option_map (λ y. y.place) x) is) ∙ among.found) in
      let there : corner ≡ o.origin = at ∙ ap (λ y. y.dialog.corner) same ∙ among.corner in
      let wide : width ≡ among.dialog.node.w =
      across ∙ ap (λ r. r.b.x -ℤ corner.x) within ∙ ap (λ p. (k.dialog.corner.x +ℤ k.dialog.head.w) -ℤ p.x) at ∙ between k.dialog.corner.x k.dialog.head.w
      ∙ ap (λ y. y.dialog.head.w) same ∙ width_is among.dialog.node among.dialog.node.kind among.dialog.own_kind among.kept.dialog.head among.stands.head in
      ap (λ w. then_some (is_grip w seen) corner) wide
      ∙ ap (λ q. then_some (is_grip among.dialog.node.w q) corner) sees
      ∙ ap (λ p. then_some (is_grip among.dialog.node.w (seen_from p point)) p) there
      ∙ if_held (is_grip among.dialog.node.w (seen_from o.origin point)) o.origin
      ∙ sym (ap (λ x. if is_grip_of x (seen_from o.origin point) then Some o.origin else None) among.there)
