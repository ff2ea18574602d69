-- Rules and texts go by the fields of leaves alone.
use Rattle.std.proofs.Common.{◌≡◌, false, cond, nat_lt, ◌&&◌, ◌==◌, ℕ, if◌then◌else◌, List, [], ◌∷◌, map, filter, get_or, Option, Some, None, option_map, refl, sym, ap, subst, ◌∙◌}
use Rattle.std.specs.List.{cons_option}
use Rattle.std.proofs.lemmas.Bool.{or_parts}
use Rattle.tv_model.specs.declared.node.Id.{Id}
use Rattle.tv_model.specs.declared.node.Node.{Node}
use Rattle.tv_model.specs.declared.record.Value.{Value}
use Rattle.tv_model.specs.declared.desc.Dialog.{Dialog}
use Rattle.tv_model.specs.Controls.Contents.{text_of}
use Rattle.tv_model.specs.Description.Names.{meant}
use Rattle.tv_model.specs.Description.Numbers.{natural}
use Rattle.tv_model.specs.Kinds.Cluster.{is_marked}
use Rattle.tv_model.specs.Log.Record.{Entries, value_of}
use Rattle.tv_machine.specs.Controls.Declared.{declared_value}
use Rattle.tv_machine.specs.State.{LeafState}
use Rattle.tv_machine.specs.Leaves.{PlacedNode, leaf_list}
use Rattle.tv_machine.specs.Dialog.Alike.{HoldSame}
use Rattle.tv_machine.specs.Dialog.Ending.{fields_of}
use Rattle.tv_machine.specs.Dialog.Opening.{first_focus, opened_leaf, opened_leaves, unfocused}
use Rattle.tv_machine.specs.Dialog.Rules.{content_by, is_among, is_marked_at, state_of}
use Rattle.tv_machine.proofs.EntryLemmas.{entry_with}
use Rattle.tv_machine.proofs.LeafLemmas.{IsIn, ids-apart, leaf_id, leaves-are, state_id}
use Rattle.tv_machine.proofs.ListLemmas.{AreApart, bool_cases, find-map, has, option_cases, same-id}
use Rattle.tv_laws.specs.Records.{opened_record}
use Rattle.tv_laws.specs.Sound.{IsSoundDialog}
use Rattle.tv_laws.specs.Steps.{IsSafeSave}
use Rattle.tv_laws.proofs.OpenLemmas.{standing_before}
use Rattle.tv_laws.proofs.RecordLaws.ShowLemmas.{fields-moved, fields-opened}
use Rattle.tv_laws.proofs.WorkLemmas.{filter_none}
use Rattle.tv_reach.specs.declared.mask.Mask.{Mask}
use Rattle.tv_reach.specs.Marks.{text_in}
use Rattle.tv_reach.specs.Masks.{IsClosed}
use Rattle.tv_reach.specs.Runs.{IsNeverShown, StaysWithin}
use Rattle.tv_reach.proofs.MaskLemmas.{lies-same}

-- ---- values by fields

-- the value of the leaf of an id, if there is one
abbrev pub value_at : List LeafState → Id → Option Value
value_at leaves i = (content_by false (state_of leaves i)).value

-- entries before which a leaf has this value
abbrev with_leaf : Id → Option Value → Entries → Entries
with_leaf i v entries = cons_option (option_map (entry_with i) v) entries

absent : (leaves : List LeafState) (i : Id) → is_among (map state_id leaves) i ≡ false → value_of (fields_of leaves) i.0 ≡ None
absent [] i e = refl
absent (leaf ∷ leaves) i e =
    let parts = or_parts (leaf.id.0 == i.0) (is_among (map state_id leaves) i) e in
    option_cases leaf.value (λ v. value_of (with_leaf leaf.id v (fields_of leaves)) i.0 ≡ None) (λ none. absent leaves i parts.1)
    (λ v some. ap (λ b. if b then Some v else value_of (fields_of leaves) i.0) parts.0 ∙ absent leaves i parts.1)

field_value : (leaves : List LeafState) → AreApart (map state_id leaves) → (i : Id) → value_at leaves i ≡ value_of (fields_of leaves) i.0
field_value [] apart i = refl
field_value (leaf ∷ leaves) apart i =
    bool_cases (leaf.id.0 == i.0)
    (λ b. (leaf.id.0 == i.0) ≡ b → (content_by false (cond b (Some leaf) (state_of leaves i))).value ≡ value_of (fields_of (leaf ∷ leaves)) i.0)
    (λ is e.
    let none : value_of (fields_of leaves) i.0 ≡ None
    = absent leaves i (ap (is_among (map state_id leaves)) (sym (same-id leaf.id i e)) ∙ apart.0) in
    option_cases leaf.value (λ v. v ≡ value_of (with_leaf leaf.id v (fields_of leaves)) i.0) (λ no_value. sym none)
    (λ v some. sym (ap (λ b. if b then Some v else value_of (fields_of leaves) i.0) e)))
    (λ is e.
    field_value leaves apart.1 i
    ∙ option_cases leaf.value (λ v. value_of (fields_of leaves) i.0 ≡ value_of (with_leaf leaf.id v (fields_of leaves)) i.0) (λ no_value. refl)
    (λ v some. sym (ap (λ b. if b then Some v else value_of (fields_of leaves) i.0) e)))
    refl

-- leaves with the same fields have the same values
pub values-same : (leaves other : List LeafState) → AreApart (map state_id leaves) → AreApart (map state_id other)
    → fields_of leaves ≡ fields_of other → (i : Id) → value_at leaves i ≡ value_at other i
values-same leaves other apart others same i =
    field_value leaves apart i ∙ ap (λ entries. value_of entries i.0) same ∙ sym (field_value other others i)

-- ---- rules and texts by values

module _ (d : Dialog) (leaves other : List LeafState) (same : (i : Id) → value_at leaves i ≡ value_at other i) where
  hold_same : HoldSame d leaves other
  hold_same = λ k e h.
      ap (λ b. nat_lt 0 (natural (get_or d.rules k e).item) && b)
      (at (natural (get_or d.rules k e).item) (meant d.views (get_or d.rules k e).cluster))
    where
      at : (item : ℕ) (node : Option Node) → is_marked_at leaves item node ≡ is_marked_at other item node
      at item None = refl
      at item (Some node) = ap (λ v. is_marked v item) (same node.id)

  -- what lies within masks by its values does so by the same values
  pub within-same : (masks : List Mask) → StaysWithin d masks leaves → StaysWithin d masks other
  within-same masks stays = record {
    rules = lies-same d masks leaves other hold_same stays.rules;
    hidden = λ k leaf h never. sym (ap text_of (same (get_or (leaf_list d.views) k leaf).node.id)) ∙ stays.hidden k leaf h never;
  }

-- ---- a dialog that opens

module _ (d : Dialog) (sound : IsSoundDialog d) where
  module _ (saved : Option Entries) (safe : IsSafeSave d saved) where
    no_ids : [] ≡ filter (is_among []) (map (λ view. view.id) d.views)
    no_ids = sym (filter_none (map (λ view. view.id) d.views))

    opened_fields : fields_of (opened_leaves d saved) ≡ opened_record d saved
    opened_fields =
        sym
        (fields-moved d sound (unfocused d saved []) (first_focus d (opened_leaves d saved)) (standing_before d sound saved [] safe no_ids))
        ∙ fields-opened d sound saved [] safe no_ids

    -- leaves that show a record have the values with which the dialog opens
    pub shown-values : (leaves : List LeafState) → map state_id leaves ≡ map leaf_id (leaf_list d.views)
        → fields_of leaves ≡ opened_record d saved → (i : Id) → value_at (opened_leaves d saved) i ≡ value_at leaves i
    shown-values leaves ids shown =
        values-same (opened_leaves d saved) leaves
        (subst AreApart (sym (standing_before d sound saved [] safe no_ids).leaves) (ids-apart d sound.lawful))
        (subst AreApart (sym ids) (ids-apart d sound.lawful)) (opened_fields ∙ sym shown)

  -- a leaf as it is declared
  abbrev declared : PlacedNode → LeafState
  declared leaf = opened_leaf None leaf.node

  declared_there : (leaf : PlacedNode) → IsIn d leaf → state_of (opened_leaves d None) leaf.node.id ≡ Some (declared leaf)
  declared_there leaf e = find-map declared (has state_id leaf.node.id) (leaf_list d.views) ∙ ap (option_map declared) e

  -- as it is declared its rules lie within a closed list, and each leaf has its declared text
  pub starts-within : (masks : List Mask) → IsClosed d masks → StaysWithin d masks (opened_leaves d None)
  starts-within masks closed = record {
    rules = closed.starts;
    hidden =
        leaves-are d sound.lawful
        (λ leaf. IsNeverShown d masks leaf → text_in (opened_leaves d None) leaf.node.id ≡ text_of (declared_value leaf.node.kind))
        (λ leaf e never. ap (λ o. text_of (content_by false o).value) (declared_there leaf e));
  }
