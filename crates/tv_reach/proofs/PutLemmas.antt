-- What becomes of marks and texts where one leaf holds something else, and where the focus moves.
use Rattle.std.proofs.Common.{◌≡◌, Bool, true, false, nat_lt, ◌&&◌, ◌==◌, ℕ, if◌then◌else◌, List, get_or, Option, Some, None, option_map, refl, sym, ap, ◌∙◌}
use Rattle.tv_model.specs.declared.node.Id.{Id}
use Rattle.tv_model.specs.declared.node.Node.{Node}
use Rattle.tv_model.specs.declared.desc.Dialog.{Dialog}
use Rattle.tv_model.specs.Controls.Contents.{Content, text_of}
use Rattle.tv_model.specs.Description.Names.{meant}
use Rattle.tv_model.specs.Description.Numbers.{natural}
use Rattle.tv_model.specs.Kinds.{behaviour}
use Rattle.tv_model.specs.Kinds.Cluster.{is_marked}
use Rattle.tv_model.specs.Kinds.InputLine.{Edit, edit_content, edit_of, entered, left}
use Rattle.tv_machine.specs.State.{LeafState}
use Rattle.tv_machine.specs.Leaves.{PlacedNode}
use Rattle.tv_machine.specs.Dialog.Focus.{edited_at, focus_moved, refocused}
use Rattle.tv_machine.specs.Dialog.Lawful.{IsLawfulDialog}
use Rattle.tv_machine.specs.Dialog.Modal.{Modal, content_at, content_put, holding, leaf_at}
use Rattle.tv_machine.specs.Dialog.Rules.{content_by, is_among, is_marked_at, state_of}
use Rattle.tv_machine.proofs.LeafLemmas.{HasLeaves, state-changed, state_id}
use Rattle.tv_machine.proofs.ListLemmas.{bool_cases, found-id, option_cases, same-id}
use Rattle.tv_machine.proofs.MarkLemmas.{hold-itself, hold-then, value_by}
use Rattle.tv_machine.proofs.RefocusLemmas.{leaves-refocused}
use Rattle.tv_reach.specs.Marks.{OthersHoldSame, StaySame, is_view, text_in}

pub itself : (d : Dialog) (leaves : List LeafState) → StaySame d leaves leaves
itself d leaves = record { marks = hold-itself d leaves; texts = λ i. refl }

pub same-then : (d : Dialog) (leaves mid other : List LeafState) → StaySame d leaves mid → StaySame d mid other → StaySame d leaves other
same-then d leaves mid other p q = record {
  marks = hold-then d leaves mid other p.marks q.marks;
  texts = λ i. p.texts i ∙ q.texts i;
}

-- where a leaf holds something else, rules that ask for other views hold as before
pub others-hold : (d : Dialog) (lawful : IsLawfulDialog d) (m : Modal) → HasLeaves d m → (i : Id) (c : Content)
    → OthersHoldSame d i m.leaves (content_put d i c m).leaves
others-hold d lawful m leaves i c = λ k e h apart.
    ap (λ b. nat_lt 0 (natural (get_or d.rules k e).item) && b)
    (at (natural (get_or d.rules k e).item) (meant d.views (get_or d.rules k e).cluster) apart)
  where
    at : (item : ℕ) (o : Option Node) → is_view i o ≡ false → is_marked_at m.leaves item o ≡ is_marked_at (content_put d i c m).leaves item o
    at item None apart = refl
    at item (Some node) apart =
        option_cases (state_of m.leaves node.id)
        (λ o. is_marked (content_by false o).value item ≡ is_marked (content_by false (option_map (holding i c) o)).value item)
        (λ none. refl)
        (λ s there.
        ap (λ b. is_marked (if b then record s { value = c.value; private = c.private } else s).value item)
        (sym (ap (λ id. id.0 == i.0) (found-id state_id node.id m.leaves s there) ∙ apart)))
        ∙ ap (λ o. is_marked (content_by false o).value item) (sym (state-changed d lawful m leaves i c node.id))

-- and other leaves have the texts that they had
pub other-texts : (d : Dialog) (lawful : IsLawfulDialog d) (m : Modal) → HasLeaves d m → (i : Id) (c : Content) (j : Id) → (j.0 == i.0) ≡ false
    → text_in m.leaves j ≡ text_in (content_put d i c m).leaves j
other-texts d lawful m leaves i c j apart =
    option_cases (state_of m.leaves j)
    (λ o. text_of (content_by false o).value ≡ text_of (content_by false (option_map (holding i c) o)).value)
    (λ none. refl)
    (λ s there.
    ap (λ b. text_of (if b then record s { value = c.value; private = c.private } else s).value)
    (sym (ap (λ id. id.0 == i.0) (found-id state_id j m.leaves s there) ∙ apart)))
    ∙ ap (λ o. text_of (content_by false o).value) (sym (state-changed d lawful m leaves i c j))

module _ (d : Dialog) (lawful : IsLawfulDialog d) where
  -- where it holds the same text
  texts-changed : (m : Modal) → HasLeaves d m → (i : Id) (c : Content) → text_of (content_at m i).value ≡ text_of c.value
      → (j : Id) → text_in m.leaves j ≡ text_in (content_put d i c m).leaves j
  texts-changed m leaves i c text j =
      option_cases (state_of m.leaves j)
      (λ o. text_of (content_by false o).value ≡ text_of (content_by false (option_map (holding i c) o)).value)
      (λ none. refl) (λ s found. held s found (found-id state_id j m.leaves s found))
      ∙ ap (λ o. text_of (content_by false o).value) (sym (state-changed d lawful m leaves i c j))
    where
      held : (s : LeafState) → state_of m.leaves j ≡ Some s → s.id ≡ j → text_of s.value ≡ text_of (holding i c s).value
      held s found is =
          bool_cases (s.id.0 == i.0)
          (λ b. text_of s.value ≡ text_of (if b then record s { value = c.value; private = c.private } else s).value)
          (λ here.
          let there : state_of m.leaves i ≡ Some s = ap (state_of m.leaves) (sym (same-id s.id i here) ∙ is) ∙ found in
          sym (ap text_of (value_by (is_among m.overwriting i) (state_of m.leaves i) ∙ ap (λ o. (content_by false o).value) there)) ∙ text)
          (λ there. refl)

  texts-refocused : (edit : Edit → Edit) → ((e : Edit) → (edit e).text ≡ e.text) → (o : Option PlacedNode) (m : Modal) → HasLeaves d m
      → (j : Id) → text_in m.leaves j ≡ text_in (refocused d edit o m).leaves j
  texts-refocused edit keeps None m leaves j = refl
  texts-refocused edit keeps (Some leaf) m leaves j = of (behaviour leaf.node.kind).is_edited
    where
      of : (is_edited : Bool) → text_in m.leaves j ≡ text_in (if is_edited then edited_at d leaf.node.id edit m else m).leaves j
      of true =
          texts-changed m leaves leaf.node.id (edit_content (edit (edit_of (content_at m leaf.node.id))))
          (sym (keeps (edit_of (content_at m leaf.node.id)))) j
      of false = refl

  -- the focus leaves texts alone
  pub texts-moved : (m : Modal) (i : Id) → HasLeaves d m → (j : Id) → text_in m.leaves j ≡ text_in (focus_moved d i m).leaves j
  texts-moved m i leaves j =
      texts-refocused left (λ e. refl) (leaf_at d m.focus) m leaves j
      ∙ texts-refocused entered (λ e. refl) (leaf_at d i) (refocused d left (leaf_at d m.focus) m)
      (leaves-refocused d lawful left (leaf_at d m.focus) m leaves) j
