-- Tab and Shift-Tab leave every value as it was.
use Rattle.std.proofs.Common.{◌≡◌, false, List, [], ◌∷◌, map, Option, Some, refl, sym, ap, subst, ◌∙◌, All}
use Rattle.std.proofs.lemmas.List.Elements.{All-head, All-tail}
use Rattle.tv_model.specs.declared.node.Id.{Id}
use Rattle.tv_model.specs.declared.desc.Dialog.{Dialog}
use Rattle.tv_model.specs.declared.record.Value.{Value}
use Rattle.tv_machine.specs.State.{LeafState}
use Rattle.tv_machine.specs.Leaves.{leaf_list}
use Rattle.tv_machine.specs.Dialog.Focus.{Moved, NotFree, Refused, Request, Same, after_request, focus_moved, next_free, previous_free, requested, stops_of}
use Rattle.tv_machine.specs.Dialog.Modal.{Modal, content_at}
use Rattle.tv_machine.specs.Dialog.Rules.{content_by, is_among, state_of}
use Rattle.tv_laws.specs.Fit.{IsStanding}
use Rattle.tv_laws.specs.Order.{TabKeepsValues, values_of}
use Rattle.tv_laws.specs.Sound.{IsSoundDialog}
use Rattle.tv_machine.proofs.RefocusLemmas.{leaves-moved}
use Rattle.tv_machine.proofs.LeafLemmas.{HasLeaves, ids-apart, leaf_id, leaves-same, state_id}
use Rattle.tv_laws.proofs.KeyLaws.ActLemmas.{moved-value}
use Rattle.tv_laws.proofs.LeavingLemmas.{tab-next}
use Rattle.tv_machine.proofs.ListLemmas.{AreApart, find-member, map-map}
use Rattle.tv_machine.proofs.MarkLemmas.{value_by}
use Rattle.tv_laws.proofs.KeyLaws.OrderLemmas.{shift-tab-previous}

-- ---- all values

-- the value of the leaf of an id
abbrev value_at : List LeafState → Id → Option Value
value_at leaves i = (content_by false (state_of leaves i)).value

-- values are those that are found by the ids
values-found : (leaves states : List LeafState) → All (λ s. state_of leaves s.id ≡ Some s) states
    → values_of states ≡ map (value_at leaves) (map state_id states)
values-found leaves [] found = refl
values-found leaves (s ∷ states) found =
    let here : value_at leaves s.id ≡ s.value = ap (λ o. (content_by false o).value) (All-head (λ x. state_of leaves x.id ≡ Some x) s states found) in
    ap (λ v. v ∷ values_of states) (sym here)
    ∙ ap (λ vs. value_at leaves s.id ∷ vs) (values-found leaves states (All-tail (λ x. state_of leaves x.id ≡ Some x) s states found))

module _ (d : Dialog) (sound : IsSoundDialog d) where
  values-are : (m : Modal) → HasLeaves d m → values_of m.leaves ≡ map (λ leaf. (content_at m leaf.node.id).value) (leaf_list d.views)
  values-are m leaves =
      values-found m.leaves m.leaves (find-member state_id m.leaves (subst AreApart (sym leaves) (ids-apart d sound.lawful)))
      ∙ ap (map (value_at m.leaves)) leaves ∙ map-map leaf_id (value_at m.leaves) (leaf_list d.views)
      ∙ leaves-same d sound.lawful (λ leaf. value_at m.leaves leaf.node.id) (λ leaf. (content_at m leaf.node.id).value)
      (λ leaf e. sym (value_by (is_among m.overwriting leaf.node.id) (state_of m.leaves leaf.node.id)))

  values-moved : (m : Modal) (to : Id) → IsStanding d m → values_of (focus_moved d to m).leaves ≡ values_of m.leaves
  values-moved m to s =
      let n = focus_moved d to m in
      values-are n (leaves-moved d sound.lawful m to s.leaves)
      ∙ leaves-same d sound.lawful (λ leaf. (content_at n leaf.node.id).value) (λ leaf. (content_at m leaf.node.id).value)
      (moved-value d sound m to s)
      ∙ sym (values-are m s.leaves)

  values-asked : (m : Modal) (to : Id) (r : Request) → IsStanding d m → values_of (after_request d to r m).leaves ≡ values_of m.leaves
  values-asked m to Same s = refl
  values-asked m to NotFree s = refl
  values-asked m to Refused s = refl
  values-asked m to Moved s = values-moved m to s

  pub tab-keeps-values : TabKeepsValues d
  tab-keeps-values = (
    λ m fit idle.
        let to = next_free (stops_of d m.leaves) m.focus in
        ap (λ n. values_of n.leaves) (tab-next d m idle) ∙ values-asked m to (requested d m to) fit.standing,
    λ m fit idle.
        let to = previous_free (stops_of d m.leaves) m.focus in
        ap (λ n. values_of n.leaves) (shift-tab-previous d m idle) ∙ values-asked m to (requested d m to) fit.standing,
  )
