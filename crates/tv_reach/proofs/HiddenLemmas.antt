-- The texts of leaves that aren't visible stay.
use Rattle.std.proofs.Common.{◌≡◌, inl, inr, false, ◌==◌, Some, refl, sym, ap, ◌∙◌}
use Rattle.std.proofs.lemmas.Bool.{true≢false}
use Rattle.tv_event.specs.declared.event.Event.{Event}
use Rattle.tv_model.specs.declared.desc.Dialog.{Dialog}
use Rattle.tv_machine.specs.Leaves.{PlacedNode}
use Rattle.tv_machine.specs.Dialog.Modal.{Modal}
use Rattle.tv_machine.specs.Dialog.Rules.{is_visible}
use Rattle.tv_machine.specs.Dialog.Step.{dialog_step}
use Rattle.tv_machine.proofs.LeafLemmas.{IsIn, leaf_at-same, leaves-are}
use Rattle.tv_machine.proofs.ListLemmas.{bool_cases, same-id}
use Rattle.tv_laws.specs.Sound.{IsSoundDialog}
use Rattle.tv_reach.specs.Marks.{HiddenTextsStay, IsMove, MovesOne, text_in}
use Rattle.tv_reach.proofs.MoveLemmas.{events-move-one}

module _ (d : Dialog) (sound : IsSoundDialog d) (m : Modal) (e : Event) (leaf : PlacedNode) (there : IsIn d leaf) where
  -- the leaf that moves is another one
  other_leaf : (move : IsMove d m.leaves (dialog_step d e m).leaves) → is_visible d m.leaves leaf ≡ false
      → (leaf.node.id.0 == move.leaf.node.id.0) ≡ false
  other_leaf move hidden =
      bool_cases (leaf.node.id.0 == move.leaf.node.id.0) (λ b. b ≡ false)
      (λ is.
      let both : Some leaf ≡ Some move.leaf
      = sym (leaf_at-same d move.leaf.node.id leaf there (same-id leaf.node.id move.leaf.node.id is)) ∙ move.there in
      let same : leaf ≡ move.leaf = cc in
      absurd (true≢false (sym move.visible ∙ ap (is_visible d m.leaves) (sym same) ∙ hidden)))
      (λ is. refl)

  hidden_stays : MovesOne d m.leaves (dialog_step d e m).leaves → is_visible d m.leaves leaf ≡ false
      → text_in m.leaves leaf.node.id ≡ text_in (dialog_step d e m).leaves leaf.node.id
  hidden_stays (inl same) hidden = same.texts leaf.node.id
  hidden_stays (inr move) hidden = move.texts leaf.node.id (other_leaf move hidden)

pub hidden-texts-stay : (d : Dialog) → IsSoundDialog d → HiddenTextsStay d
hidden-texts-stay d sound m e o =
    leaves-are d sound.lawful
    (λ leaf. is_visible d m.leaves leaf ≡ false → text_in m.leaves leaf.node.id ≡ text_in (dialog_step d e m).leaves leaf.node.id)
    (λ leaf there. hidden_stays d sound m e leaf there (events-move-one d sound m e o))
