-- What the coming and going of the focus makes of what leaves hold.
use Rattle.std.proofs.Common.{◌≡◌, Bool, true, false, ◌==◌, if◌then◌else◌, Option, Some, None, refl, sym, ap, ◌∙◌}
use Rattle.std.proofs.lemmas.Bool.{false≢true}
use Rattle.tv_model.specs.declared.node.Id.{Id}
use Rattle.tv_model.specs.declared.kind.Kind.{Kind}
use Rattle.tv_model.specs.declared.kind.Kind.TheVariants as kinds
use Rattle.tv_model.specs.Kinds.{behaviour}
use Rattle.tv_model.specs.declared.desc.Dialog.{Dialog}
use Rattle.tv_model.specs.Kinds.InputLine.{Edit, entered, left, edit_content, edit_of}
use Rattle.tv_model.specs.Description.Nodes.{is_cluster}
use Rattle.tv_machine.specs.Leaves.{PlacedNode, leaf_list}
use Rattle.tv_model.specs.Controls.Contents.{Content}
use Rattle.tv_machine.specs.Dialog.Focus.{edited_at, focus_moved, refocused}
use Rattle.tv_machine.specs.Dialog.Modal.{Modal, content_at, leaf_at, content_put}
use Rattle.tv_machine.specs.Dialog.Alike.{HoldSame}
use Rattle.tv_machine.specs.Dialog.Lawful.{IsLawfulDialog}
use Rattle.tv_machine.proofs.ListLemmas.{bool_cases, either-same, has, none-fails, option_cases, same-id}
use Rattle.tv_machine.proofs.MarkLemmas.{hold-itself, hold-then, hold-unclustered}
use Rattle.tv_machine.proofs.LeafLemmas.{HasLeaves, IsIn, content_at-changed, leaf_at-all, leaf_at-in, leaf_at-is, leaf_at-same, leaf_id, leaves-changed}

-- what it makes of what a leaf of the kind holds
abbrev pub refocused_content : (Edit → Edit) → Kind → Content → Content
refocused_content edit k c = if (behaviour k).is_edited then edit_content (edit (edit_of c)) else c

-- what a leaf of the kind holds after the focus has moved, where it has received or lost it
abbrev pub moved_content : (to from : Bool) → Kind → Content → Content
moved_content to from k c =
    if to then refocused_content entered k (if from then refocused_content left k c else c)
    else if from then refocused_content left k c else c

-- no cluster is edited
edited-unclustered : (k : Kind) → (behaviour k).is_edited ≡ true → is_cluster k ≡ false
edited-unclustered (kinds.CheckBoxes boxes) is = absurd (false≢true is)
edited-unclustered (kinds.RadioButtons radios) is = absurd (false≢true is)
edited-unclustered _ is = refl

-- ---- the machine's dialog

-- what only contents change stays so
pub refocused-keeps : (P : Modal → Type 0) (d : Dialog) → ((i : Id) (c : Content) (m : Modal) → P m → P (content_put d i c m))
    → (edit : Edit → Edit) (o : Option PlacedNode) (m : Modal)
    → P m → P (refocused d edit o m)
refocused-keeps P d keeps edit None m p = p
refocused-keeps P d keeps edit (Some leaf) m p = of (behaviour leaf.node.kind).is_edited
  where
    of : (is_edited : Bool) → P (if is_edited then edited_at d leaf.node.id edit m else m)
    of true = keeps leaf.node.id (edit_content (edit (edit_of (content_at m leaf.node.id)))) m p
    of false = p

module _ (d : Dialog) (lawful : IsLawfulDialog d) where
  pub leaves-refocused : (edit : Edit → Edit) (o : Option PlacedNode) (m : Modal) → HasLeaves d m → HasLeaves d (refocused d edit o m)
  leaves-refocused edit o m leaves = refocused-keeps (HasLeaves d) d (λ i c n p. leaves-changed d lawful n p i c) edit o m leaves

  pub held-refocused : (edit : Edit → Edit) (o : Option PlacedNode) (m : Modal) → (refocused d edit o m).held ≡ m.held
  held-refocused edit o m = refocused-keeps (λ n. n.held ≡ m.held) d (λ i c n p. p) edit o m refl

  module _ (edit : Edit → Edit) (m : Modal) (leaves : HasLeaves d m) (leaf : PlacedNode) (e : IsIn d leaf) where
    of_edited : (is_edited : Bool) (i : Id)
        → content_at (if is_edited then edited_at d i edit m else m) leaf.node.id
        ≡ (if leaf.node.id.0 == i.0 then if is_edited then edit_content (edit (edit_of (content_at m leaf.node.id))) else content_at m leaf.node.id
        else content_at m leaf.node.id)
    of_edited true i =
        content_at-changed d lawful m leaves i (edit_content (edit (edit_of (content_at m i)))) leaf e
        ∙ bool_cases (leaf.node.id.0 == i.0)
        (λ b. (if b then edit_content (edit (edit_of (content_at m i))) else content_at m leaf.node.id)
        ≡ (if b then edit_content (edit (edit_of (content_at m leaf.node.id))) else content_at m leaf.node.id))
        (λ here. ap (λ id. edit_content (edit (edit_of (content_at m id)))) (sym (same-id leaf.node.id i here))) (λ there. refl)
    of_edited false i = sym (either-same (leaf.node.id.0 == i.0) (content_at m leaf.node.id))

    abbrev after : Id → Kind → Content
    after i k = if leaf.node.id.0 == i.0 then refocused_content edit k (content_at m leaf.node.id) else content_at m leaf.node.id

    pub content_at-refocused : (i : Id) → content_at (refocused d edit (leaf_at d i) m) leaf.node.id ≡ after i leaf.node.kind
    content_at-refocused i =
        option_cases (leaf_at d i) (λ o. content_at (refocused d edit o m) leaf.node.id ≡ after i leaf.node.kind)
        (λ none.
        let other : (leaf.node.id.0 == i.0) ≡ false =
        leaf_at-all (λ x. has leaf_id i x ≡ false) d leaf.node.id leaf (none-fails (has leaf_id i) (leaf_list d.views) none) e in
        sym
        (ap (λ b. if b then refocused_content edit leaf.node.kind (content_at m leaf.node.id) else content_at m leaf.node.id) other))
        (λ x found.
        of_edited (behaviour x.node.kind).is_edited x.node.id ∙ ap (λ id. after id x.node.kind) (leaf_at-is d i x found)
        ∙ bool_cases (leaf.node.id.0 == i.0)
        (λ b. (if b then refocused_content edit x.node.kind (content_at m leaf.node.id) else content_at m leaf.node.id)
        ≡ (if b then refocused_content edit leaf.node.kind (content_at m leaf.node.id) else content_at m leaf.node.id))
        (λ here.
        let both : Some x ≡ Some leaf = sym found ∙ leaf_at-same d i leaf e (same-id leaf.node.id i here) in
        let same : x ≡ leaf = cc in
        ap (λ y. refocused_content edit y.node.kind (content_at m leaf.node.id)) same)
        (λ there. refl))

  -- ---- after the focus has moved

  pub leaves-moved : (m : Modal) (i : Id) → HasLeaves d m → HasLeaves d (focus_moved d i m)
  leaves-moved m i leaves =
      leaves-refocused entered (leaf_at d i) (refocused d left (leaf_at d m.focus) m) (leaves-refocused left (leaf_at d m.focus) m leaves)

  pub held-moved : (m : Modal) (i : Id) → (focus_moved d i m).held ≡ m.held
  held-moved m i =
      held-refocused entered (leaf_at d i) (refocused d left (leaf_at d m.focus) m) ∙ held-refocused left (leaf_at d m.focus) m

  pub content_at-moved : (m : Modal) (i : Id) → HasLeaves d m → (leaf : PlacedNode) → IsIn d leaf
      → content_at (focus_moved d i m) leaf.node.id
      ≡ moved_content (leaf.node.id.0 == i.0) (leaf.node.id.0 == m.focus.0) leaf.node.kind (content_at m leaf.node.id)
  content_at-moved m i leaves leaf e =
      content_at-refocused entered (refocused d left (leaf_at d m.focus) m) (leaves-refocused left (leaf_at d m.focus) m leaves) leaf e i
      ∙ ap (λ c. if leaf.node.id.0 == i.0 then refocused_content entered leaf.node.kind c else c)
      (content_at-refocused left m leaves leaf e m.focus)

  -- ---- marks stay

  hold-edited : (edit : Edit → Edit) (m : Modal) → HasLeaves d m → (leaf : PlacedNode) → leaf_at d leaf.node.id ≡ Some leaf → (is_edited : Bool)
      → (behaviour leaf.node.kind).is_edited ≡ is_edited
      → HoldSame d m.leaves (if is_edited then edited_at d leaf.node.id edit m else m).leaves
  hold-edited edit m leaves leaf e true is =
      hold-unclustered d lawful m leaves leaf.node.id (edit_content (edit (edit_of (content_at m leaf.node.id)))) leaf e
      (edited-unclustered leaf.node.kind is)
  hold-edited edit m leaves leaf e false is = hold-itself d m.leaves

  pub hold-refocused : (edit : Edit → Edit) (m : Modal) → HasLeaves d m → (i : Id)
      → HoldSame d m.leaves (refocused d edit (leaf_at d i) m).leaves
  hold-refocused edit m leaves i =
      option_cases (leaf_at d i) (λ o. HoldSame d m.leaves (refocused d edit o m).leaves) (λ none. hold-itself d m.leaves)
      (λ leaf found. hold-edited edit m leaves leaf (leaf_at-in d lawful i leaf found) (behaviour leaf.node.kind).is_edited refl)

  pub hold-moved : (m : Modal) (i : Id) → HasLeaves d m → HoldSame d m.leaves (focus_moved d i m).leaves
  hold-moved m i leaves =
      let n = refocused d left (leaf_at d m.focus) m in
      hold-then d m.leaves n.leaves (focus_moved d i m).leaves (hold-refocused left m leaves m.focus)
      (hold-refocused entered n (leaves-refocused left (leaf_at d m.focus) m leaves) i)
