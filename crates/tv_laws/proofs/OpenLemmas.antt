-- A dialog opens as it must be: with nothing saved, or with a safe record.
use Rattle.std.proofs.Common.{◌≡◌, true, ◌==◌, ℕ, if◌then◌else◌, List, [], ◌∷◌, map, filter, find, Option, Some, None, option_map, is_some, unwrap_or, refl, sym, ap, subst, ◌∙◌, All}
use Rattle.std.specs.Option.{option_or}
use Rattle.std.proofs.lemmas.Bool.{false≢true}
use Rattle.std.proofs.lemmas.List.Elements.{All-head, All-nil, All-tail}
use Rattle.tv_valid.specs.Domain.{InDomain}
use Rattle.tv_valid.proofs.Beginnings.{accepted_viable}
use Rattle.tv_model.specs.declared.node.Id.{Id}
use Rattle.tv_model.specs.declared.kind.Kind.{Kind}
use Rattle.tv_model.specs.declared.kind.Kind.TheVariants as kinds
use Rattle.tv_model.specs.declared.desc.Dialog.{Dialog}
use Rattle.tv_model.specs.declared.record.Entry.{Entry}
use Rattle.tv_model.specs.declared.record.Value.{Value}
use Rattle.tv_model.specs.declared.record.Value.TheVariants as values
use Rattle.tv_model.specs.Description.LawfulNodes.{HasLawfulStart}
use Rattle.tv_model.specs.Description.Nodes.{node_of}
use Rattle.tv_model.specs.Log.Record.{Entries, value_of}
use Rattle.tv_machine.specs.Controls.Declared.{declared_value}
use Rattle.tv_machine.specs.State.{LeafState}
use Rattle.tv_machine.specs.Leaves.{PlacedNode, leaf_list}
use Rattle.tv_machine.specs.Dialog.Focus.{is_free_at, is_free_leaf, stop_of, stops_of}
use Rattle.tv_machine.specs.Dialog.Modal.{Modal}
use Rattle.tv_machine.specs.Dialog.Opening.{first_focus, opened_dialog, opened_leaf, opened_leaves, recorded, unfocused}
use Rattle.tv_machine.specs.Dialog.Rules.{content_by, is_among, is_free, state_of}
use Rattle.tv_machine.specs.Safe.{HasValueOf, IsSafeEntry, IsSafeRecord, IsValueOf}
use Rattle.tv_laws.specs.Ends.{NamesEndOf, IsOpen}
use Rattle.tv_laws.specs.Fit.{IsFitContent, IsFitLeaf, IsStanding}
use Rattle.tv_laws.specs.Sound.{IsSoundDialog}
use Rattle.tv_laws.specs.Steps.{IsSafeSave, OpensFit}
use Rattle.tv_laws.proofs.ComingLemmas.{declared-fit, opened-fit}
use Rattle.tv_machine.proofs.RefocusLemmas.{held-moved}
use Rattle.tv_laws.proofs.FreeLemmas.{quiet-moved}
use Rattle.tv_laws.proofs.KeyLemmas.{leaf-count}
use Rattle.tv_machine.proofs.LeafLemmas.{IsIn, found-in, leaf_at-node, leaves-are, state_id, views-apart}
use Rattle.tv_machine.proofs.ListLemmas.{bool_cases, find-map, find-member, found-passes, has, map-map, option_cases, same-id}
use Rattle.tv_laws.proofs.StandLemmas.{fit-moved}

-- ---- a saved value

-- an entry of the field, with what is so of it
record IsEntryFor (P : Entry → Type 0) (field : ℕ) (value : Value) : Type 0 where
  entry : Entry
  is : P entry
  id : (entry.id.0 == field) ≡ true
  holds : entry.value ≡ value

entry_for : (P : Entry → Type 0) (entries : Entries) (field : ℕ) (value : Value) → All P entries → value_of entries field ≡ Some value
    → IsEntryFor P field value
entry_for P [] field value all e = absurd cc
entry_for P (x ∷ entries) field value all e =
    bool_cases (x.id.0 == field) (λ b. (if b then Some x.value else value_of entries field) ≡ Some value → (x.id.0 == field) ≡ b → IsEntryFor P field value)
    (λ is f g. let same : x.value ≡ value = cc in record { entry = x; is = All-head P x entries all; id = is; holds = same })
    (λ is f g. entry_for P entries field value (All-tail P x entries all) f) e refl

-- a text of the domain may stand in the input
viable_value : (k : Kind) (v : Value) → IsValueOf InDomain k v → HasValueOf k (Some v)
viable_value (kinds.Input input) (values.Text text) h = (h.0, h.1, accepted_viable h.0 text h.2)
viable_value k (values.Text text) h = absurd h
viable_value k (values.Marks marks) h = h
viable_value k (values.Item item) h = h

module _ (d : Dialog) (sound : IsSoundDialog d) where
  module _ (leaf : PlacedNode) (there : IsIn d leaf) where
    node_there : node_of d.views leaf.node.id ≡ Some leaf.node
    node_there = leaf_at-node (λ view. find (has (λ other. other.id) view.id) d.views ≡ Some view) d leaf.node.id leaf (find-member (λ view. view.id) d.views (views-apart d sound.lawful)) there

    pub recorded_value : (entries : Entries) (v : Value) → IsSafeRecord d entries → value_of entries leaf.node.id.0 ≡ Some v
        → HasValueOf leaf.node.kind (Some v)
    recorded_value entries v safe e =
        let found = entry_for (IsSafeEntry d) entries leaf.node.id.0 v safe.values e in
        let here : found.entry.id ≡ leaf.node.id = same-id found.entry.id leaf.node.id found.id in
        let both : Some found.is.node ≡ Some leaf.node = sym found.is.there ∙ ap (node_of d.views) here ∙ node_there in
        let same : found.is.node ≡ leaf.node = cc in
        viable_value leaf.node.kind v (subst (IsValueOf InDomain leaf.node.kind) found.holds (subst (λ node. IsValueOf InDomain node.kind found.entry.value) same found.is.value))

    opened_value : (saved : Option Entries) → IsSafeSave d saved
        → HasValueOf leaf.node.kind (option_or (recorded saved leaf.node.id) (declared_value leaf.node.kind))
    opened_value None safe = declared-fit leaf.node.kind (leaf_at-node (λ view. HasLawfulStart view.kind) d leaf.node.id leaf sound.starts there)
    opened_value (Some entries) safe =
        option_cases (value_of entries leaf.node.id.0) (λ o. HasValueOf leaf.node.kind (option_or o (declared_value leaf.node.kind)))
        (λ none. declared-fit leaf.node.kind (leaf_at-node (λ view. HasLawfulStart view.kind) d leaf.node.id leaf sound.starts there))
        (λ v found. recorded_value entries v (safe entries refl) found)

  -- ---- the leaves

  module _ (saved : Option Entries) (overwriting : List Id) (safe : IsSafeSave d saved) (ordered : overwriting ≡ filter (is_among overwriting) (map (λ view. view.id) d.views)) where
    abbrev leaf_state : PlacedNode → LeafState
    leaf_state leaf = opened_leaf saved leaf.node

    state_there : (leaf : PlacedNode) → IsIn d leaf → state_of (opened_leaves d saved) leaf.node.id ≡ Some (leaf_state leaf)
    state_there leaf e = find-map leaf_state (has state_id leaf.node.id) (leaf_list d.views) ∙ ap (option_map leaf_state) e

    abbrev before : Modal
    before = unfocused d saved overwriting

    opened_content : (leaf : PlacedNode) → IsIn d leaf → IsFitLeaf before leaf
    opened_content leaf e =
        let value = option_or (recorded saved leaf.node.id) (declared_value leaf.node.kind) in
        subst (λ o. IsFitContent (leaf.node.id.0 == d.node.id.0) leaf.node.kind (content_by (is_among overwriting leaf.node.id) o)) (sym (state_there leaf e))
        (opened-fit (leaf.node.id.0 == d.node.id.0) leaf.node.kind value (is_among overwriting leaf.node.id) (leaf-count d sound leaf.node.id leaf e) (opened_value leaf e saved safe))

    pub standing_before : IsStanding d before
    standing_before = record {
      leaves = map-map leaf_state state_id (leaf_list d.views);
      contents = leaves-are d sound.lawful (IsFitLeaf before) opened_content;
      ordered = ordered;
    }

    -- ---- the first focus

    first_free_is : (leaves : List LeafState) → is_free_at d leaves (first_focus d leaves) ≡ true
    first_free_is leaves =
        let asked = find-map (stop_of d leaves) (λ stop. stop.is_free) (leaf_list d.views) in
        option_cases (find (is_free d leaves) (leaf_list d.views))
        (λ o. find (λ stop. stop.is_free) (stops_of d leaves) ≡ option_map (stop_of d leaves) o → is_free_at d leaves (first_focus d leaves) ≡ true)
        (λ none f. absurd (false≢true (sym (ap (λ o. is_some (option_map (λ stop. stop.id) o)) f) ∙ sound.lawful.free leaves)))
        (λ leaf found f.
        let first : first_focus d leaves ≡ leaf.node.id = ap (λ o. unwrap_or (option_map (λ stop. stop.id) o) d.node.id) f in
        ap (is_free_at d leaves) first ∙ ap (is_free_leaf d leaves) (found-in d sound.lawful (is_free d leaves) leaf found)
        ∙ found-passes (is_free d leaves) (leaf_list d.views) leaf found) asked

    pub opened-open : IsOpen d (opened_dialog d saved overwriting) × ((opened_dialog d saved overwriting).held ≡ None)
    opened-open =
        let to = first_focus d (opened_leaves d saved) in
        let quiet = quiet-moved d sound before to (All-nil (NamesEndOf d), refl) in (
          record { fit = fit-moved d sound before to standing_before (first_free_is (opened_leaves d saved)) refl; log = quiet.0; going = quiet.1 },
          held-moved d sound.lawful before to,
        )

  pub opens-fit : OpensFit d
  opens-fit saved overwriting safe ordered = opened-open saved overwriting safe ordered
