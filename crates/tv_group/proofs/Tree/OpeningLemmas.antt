-- A dialog's tree as the dialog opens with a record: the values are set, rules are applied, and the first free control has the focus.
use Rattle.std.proofs.Common.{◌≡◌, Bool, true, false, cond, ◌&&◌, ◌||◌, ◌==◌, ℕ, if◌then◌else◌, List, [], ◌∷◌, map, filter, find, Option, Some, None, option_map, is_some, refl, sym, ap, subst, ◌∙◌}
use Rattle.std.specs.List.{list_any}
use Rattle.std.specs.Option.{option_or}
use Rattle.std.proofs.lemmas.Bool.{true≢false, false≢true}
use Rattle.tv_model.specs.declared.node.Id.{Id}
use Rattle.tv_model.specs.declared.kind.Kind.{Kind}
use Rattle.tv_model.specs.declared.kind.Kind.TheVariants as kinds
use Rattle.tv_model.specs.Kinds.{behaviour}
use Rattle.tv_model.specs.declared.record.Value.{Value}
use Rattle.tv_model.specs.declared.record.Value.TheVariants as values
use Rattle.tv_model.specs.declared.desc.Dialog.{Dialog}
use Rattle.tv_view.specs.Meaning.{Placed}
use Rattle.tv_model.specs.Log.Record.{Entries, value_of}
use Rattle.tv_machine.specs.Controls.Declared.{declared_value, opened_private}
use Rattle.tv_machine.specs.State.{LeafState}
use Rattle.tv_model.specs.Controls.Private.{Private, Plain}
use Rattle.tv_machine.specs.Leaves.{PlacedNode, leaf_list}
use Rattle.tv_model.specs.Controls.Contents.{Content}
use Rattle.tv_machine.specs.Dialog.Focus.{first_free, is_free_at, is_free_leaf, stop_of, stops_of}
use Rattle.tv_machine.specs.Dialog.Opening.{opened_leaf, recorded, unfocused}
use Rattle.tv_machine.specs.Dialog.Rules.{content_by, is_among, is_free, state_of}
use Rattle.tv_machine.specs.Dialog.Modal.{Modal, content_at, leaf_at}
use Rattle.tv_machine.specs.Safe.{field_ids, is_field}
use Rattle.tv_view.specs.Calls as calls
use Rattle.tv_group.specs.Calls.{FitsAll, all_set, in_place_unmarked}
use Rattle.tv_machine.specs.Dialog.Lawful.{IsLawfulDialog}
use Rattle.tv_group.specs.Tree.{HoldsNothing, IsSteady, IsSteadyAs, IsSteadyContent, IsSteadyLeaf, around_of, held_at, placed_as, tree_as}
use Rattle.tv_machine.proofs.ListLemmas.{All-unmap, any-found, bool_cases, find-map, found-passes, has, map-map, on_found, option_cases}
use Rattle.tv_group.proofs.Tree.StandingLemmas.{standing, standing_leaf}
use Rattle.tv_machine.proofs.LeafLemmas.{HasLeaves, IsIn, found-in, ids-apart, leaf_at-all, leaf_at-is, leaf_id, leaves-are, leaves-same, own-fails, state_id}
use Rattle.tv_group.proofs.Tree.TreeLemmas.{steady-leaf}

-- ---- what a record has

pub value-among : (entries : Entries) (i : Id) → is_some (value_of entries i.0) ≡ is_among (map (λ entry. entry.id) entries) i
value-among [] i = refl
value-among (x ∷ entries) i =
    bool_cases (x.id.0 == i.0)
    (λ b. is_some (if b then Some x.value else value_of entries i.0) ≡ (b || is_among (map (λ entry. entry.id) entries) i))
    (λ is. refl) (λ is. value-among entries i)

pub among_filtered : (test : PlacedNode → Bool) (i : Id) (xs : List PlacedNode)
    → is_among (map leaf_id (filter test xs)) i ≡ list_any (λ leaf. has leaf_id i leaf && test leaf) xs
among_filtered test i [] = refl
among_filtered test i (x ∷ xs) =
    bool_cases (test x)
    (λ b. is_among (map leaf_id (cond b (x ∷ filter test xs) (filter test xs))) i
    ≡ ((has leaf_id i x && b) || list_any (λ leaf. has leaf_id i leaf && test leaf) xs))
    (λ is. bool_cases (has leaf_id i x)
    (λ b. (b || is_among (map leaf_id (filter test xs)) i) ≡ ((b && true) || list_any (λ leaf. has leaf_id i leaf && test leaf) xs))
    (λ here. refl) (λ there. among_filtered test i xs))
    (λ is. bool_cases (has leaf_id i x)
    (λ b. is_among (map leaf_id (filter test xs)) i ≡ ((b && false) || list_any (λ leaf. has leaf_id i leaf && test leaf) xs))
    (λ here. among_filtered test i xs) (λ there. among_filtered test i xs))

-- a record of a dialog's fields has a value for each of them and no other leaf
pub recorded-field : (d : Dialog) → IsLawfulDialog d → (entries : Entries) → map (λ entry. entry.id) entries ≡ field_ids d
    → (leaf : PlacedNode) → IsIn d leaf
    → is_some (value_of entries leaf.node.id.0) ≡ is_field leaf.node.kind
recorded-field d lawful entries fields leaf e =
    let test = λ (other : PlacedNode). is_field other.node.kind in
    value-among entries leaf.node.id ∙ ap (λ ids. is_among ids leaf.node.id) fields
    ∙ among_filtered test leaf.node.id (leaf_list d.views)
    ∙ any-found leaf_id leaf.node.id test (leaf_list d.views) (ids-apart d lawful)
    ∙ ap (on_found leaf_id test) e

-- ---- a leaf as its dialog opens

-- what it holds
abbrev pub open_content : Kind → Option Value → Bool → Content
open_content k recorded overwrites = record {
  value = option_or recorded (declared_value k);
  private = opened_private k (option_or recorded (declared_value k));
  overwrites = overwrites;
}

content_with : Option Value → Private → Bool → Content
content_with value private overwrites = record { value = value; private = private; overwrites = overwrites }

none_is : {A : Type 0} (o : Option A) → is_some o ≡ false → o ≡ None
none_is None e = refl
none_is (Some x) e = absurd (true≢false e)

some_or : (o : Option Value) (value : Value) → is_some (option_or o (Some value)) ≡ true
some_or None value = refl
some_or (Some found) value = refl

held_field : (o : Option Value) → calls.has_field_value o ≡ is_some o
held_field None = refl
held_field (Some value) = refl

-- what is edited is a field
edited_field : (k : Kind) → (behaviour k).is_edited ≡ true → is_field k ≡ true
edited_field (kinds.Input input) e = refl
edited_field _ e = absurd (false≢true e)

-- a field has a value, and nothing else does
pub steady_field : (is_focused : Bool) (k : Kind) (c : Content) → IsSteadyContent is_focused k c → is_some c.value ≡ is_field k
steady_field is_focused k c = of (behaviour k).is_edited (is_field k) (edited_field k)
  where
    of : (edited field : Bool) → (edited ≡ true → field ≡ true) → IsSteadyAs edited field is_focused c → is_some c.value ≡ field
    of true field has s = ap is_some s.value ∙ sym (has refl)
    of false true has s = s
    of false false has s = ap is_some s.value

-- what is no field opens as it always stands
still_plain : (c : Content) (k : Kind) → HoldsNothing c → declared_value k ≡ None → opened_private k None ≡ Plain
    → c ≡ open_content k None c.overwrites
unfolding content_with
still_plain c k s declared private =
    ap (λ v. content_with v c.private c.overwrites) s.value ∙ ap (λ p. content_with None p c.overwrites) (s.private ∙ sym private)
    ∙ ap (λ v. content_with v (opened_private k v) c.overwrites) (sym declared)

plain_opens : (is_focused : Bool) (k : Kind) (c : Content) → IsSteadyContent is_focused k c → is_field k ≡ false
    → c ≡ open_content k None c.overwrites
plain_opens is_focused (kinds.Input input) c s e = absurd (true≢false e)
plain_opens is_focused (kinds.CheckBoxes boxes) c s e = absurd (true≢false e)
plain_opens is_focused (kinds.RadioButtons radios) c s e = absurd (true≢false e)
plain_opens is_focused (kinds.List list) c s e = absurd (true≢false e)
plain_opens is_focused k c s e = still_plain c k s refl refl

-- ---- where values are set

module _ (d : Dialog) (ruled : List LeafState) (leaf : PlacedNode) (c : Content) (is_focused : Bool) (held : Option ℕ) where
  -- the leaf in its place after the call, by whether it has a value and what is recorded
  abbrev set_place : Bool → Option Value → Placed
  set_place field found = record {
    leaf = record (
        if field then calls.leaf_opened_with found (standing_leaf d ruled leaf c is_focused held)
        else standing_leaf d ruled leaf c is_focused held) {
          is_focused = false;
          held = None;
        };
    around = around_of d leaf;
    is_current = false;
  }

  abbrev opens : Option Value → Placed
  opens found = standing d ruled leaf (open_content leaf.node.kind found c.overwrites) false None

  set_so : (field : Bool) (found : Option Value) → calls.has_field_value c.value ≡ field → is_some found ≡ field
      → IsSteadyContent is_focused leaf.node.kind c → is_field leaf.node.kind ≡ field
      → set_place field found ≡ opens found
  set_so true (Some value) has_value there steady fields = refl
  set_so true None has_value there steady fields = absurd (false≢true there)
  set_so false (Some value) has_value there steady fields = absurd (true≢false there)
  set_so false None has_value there steady fields =
      ap (λ x. standing d ruled leaf x false None) (plain_opens is_focused leaf.node.kind c steady fields)

overwrites_by : (overwrites : Bool) (o : Option LeafState) → (content_by overwrites o).overwrites ≡ overwrites
overwrites_by overwrites None = refl
overwrites_by overwrites (Some leaf) = refl

module _ (d : Dialog) (saved : Option Entries) (overwriting : List Id) where
  -- what a leaf holds before the dialog has a focus
  pub content_at-unfocused : (leaf : PlacedNode) → IsIn d leaf
      → content_at (unfocused d saved overwriting) leaf.node.id
      ≡ open_content leaf.node.kind (recorded saved leaf.node.id) (is_among overwriting leaf.node.id)
  content_at-unfocused leaf e =
      ap (content_by (is_among overwriting leaf.node.id))
      (find-map (λ other. opened_leaf saved other.node) (λ s. s.id.0 == leaf.node.id.0) (leaf_list d.views)
      ∙ ap (option_map (λ other. opened_leaf saved other.node)) e)

  pub leaves-unfocused : HasLeaves d (unfocused d saved overwriting)
  leaves-unfocused = map-map (λ leaf. opened_leaf saved leaf.node) state_id (leaf_list d.views)

-- the same inputs overwrite
abbrev pub OverwritesAlike : Dialog → List Id → Modal → Type 0
OverwritesAlike d overwriting m =
    (leaf : PlacedNode) → IsIn d leaf → is_among overwriting leaf.node.id ≡ is_among m.overwriting leaf.node.id

module _ (d : Dialog) (lawful : IsLawfulDialog d) (entries : Entries) (fields : map (λ entry. entry.id) entries ≡ field_ids d)
    (overwriting : List Id) where
  abbrev shut : Modal
  shut = unfocused d (Some entries) overwriting

  -- the values are set
  pub set-tree : (ruled : List LeafState) (m : Modal) → IsSteady d m → OverwritesAlike d overwriting m
      → all_set entries (tree_as d ruled m) ≡ tree_as d ruled shut
  unfolding all_set calls.set_from
  set-tree ruled m steady alike =
      map-map (placed_as d ruled m) (in_place_unmarked (calls.set_from entries)) (leaf_list d.views)
      ∙ leaves-same d lawful (λ leaf. in_place_unmarked (calls.set_from entries) (placed_as d ruled m leaf)) (placed_as d ruled shut)
      (λ leaf e.
      let c = content_at m leaf.node.id in
      let is_focused = leaf.node.id.0 == m.focus.0 in
      let held = held_at m.held leaf.node.id in
      let found = value_of entries leaf.node.id.0 in
      let holds = steady-leaf d lawful m steady leaf e in
      let is = steady_field is_focused leaf.node.kind c holds in
      let there = recorded-field d lawful entries fields leaf e in
      let own = leaf_at-all (λ other. (other.node.id.0 == d.node.id.0) ≡ false) d leaf.node.id leaf (own-fails d lawful) e in
      set_so d ruled leaf c is_focused held (calls.has_field_value c.value) found refl (there ∙ sym is ∙ sym (held_field c.value)) holds
      (sym is ∙ sym (held_field c.value))
      ∙ ap (λ b. standing d ruled leaf (open_content leaf.node.kind found b) false None)
      (overwrites_by (is_among m.overwriting leaf.node.id) (state_of m.leaves leaf.node.id) ∙ sym (alike leaf e))
      ∙ ap (λ x. standing d ruled leaf x false None) (sym (content_at-unfocused d (Some entries) overwriting leaf e))
      ∙ ap (λ b. standing d ruled leaf (content_at shut leaf.node.id) b None) (sym own))

  -- ---- the dialog is steady then

  opens_input : (is_focused : Bool) (k : Kind) (found : Option Value) (overwrites : Bool) → calls.IsFieldValue k found
      → is_some found ≡ is_field k
      → IsSteadyContent is_focused k (open_content k found overwrites)
  opens_input is_focused (kinds.Input input) (Some (values.Text text)) overwrites fits there =
      record { text = text; cursor = 0; is_whole = false; value = refl; private = refl; rested = λ e. refl }
  opens_input is_focused (kinds.Input input) _ overwrites fits there = absurd fits
  opens_input is_focused (kinds.CheckBoxes boxes) found overwrites fits there = some_or found _
  opens_input is_focused (kinds.RadioButtons radios) found overwrites fits there = some_or found _
  opens_input is_focused (kinds.List list) found overwrites fits there = some_or found _
  opens_input is_focused _ found overwrites fits there =
      record { value = ap (λ o. option_or o None) (none_is found there); private = refl }

  -- the record fits each leaf
  abbrev Suits : Type 0
  Suits = (leaf : PlacedNode) → IsIn d leaf → calls.IsFieldValue leaf.node.kind (value_of entries leaf.node.id.0)

  fits_leaf : (ruled : List LeafState) (m : Modal) → FitsAll entries (tree_as d ruled m) → Suits
  unfolding calls.Fits
  fits_leaf ruled m fits leaf e =
      leaf_at-all (λ other. calls.IsFieldValue other.node.kind (value_of entries other.node.id.0)) d leaf.node.id leaf
      (All-unmap (λ x. calls.Fits entries x.leaf) (placed_as d ruled m) (leaf_list d.views) fits) e

  steady_suited : Suits → IsSteady d shut
  steady_suited suits = record {
    leaves = leaves-unfocused d (Some entries) overwriting;
    contents = leaves-are d lawful (IsSteadyLeaf shut)
        (λ leaf e. subst (IsSteadyContent (leaf.node.id.0 == d.node.id.0) leaf.node.kind)
        (sym (content_at-unfocused d (Some entries) overwriting leaf e))
        (opens_input (leaf.node.id.0 == d.node.id.0) leaf.node.kind (value_of entries leaf.node.id.0)
        (is_among overwriting leaf.node.id) (suits leaf e)
        (recorded-field d lawful entries fields leaf e)));
  }

  pub steady-unfocused : (ruled : List LeafState) (m : Modal) → FitsAll entries (tree_as d ruled m) → IsSteady d shut
  steady-unfocused ruled m fits = steady_suited (fits_leaf ruled m fits)

-- ---- the first focus

module _ (d : Dialog) (lawful : IsLawfulDialog d) (leaves : List LeafState) where
  -- the first free control is free
  pub first-free : (i : Id) → first_free (stops_of d leaves) ≡ Some i → is_free_at d leaves i ≡ true
  first-free i e =
      option_cases (find (is_free d leaves) (leaf_list d.views))
      (λ o. option_map (λ stop. stop.id) (option_map (stop_of d leaves) o) ≡ Some i → is_free_at d leaves i ≡ true)
      (λ none f. absurd cc)
      (λ leaf found f.
      let is : leaf.node.id ≡ i = cc in
      ap (λ id. is_free_at d leaves id) (sym is) ∙ ap (is_free_leaf d leaves) (found-in d lawful (is_free d leaves) leaf found)
      ∙ found-passes (is_free d leaves) (leaf_list d.views) leaf found)
      (ap (option_map (λ stop. stop.id)) (sym (find-map (stop_of d leaves) (λ stop. stop.is_free) (leaf_list d.views))) ∙ e)

  -- what is free isn't the dialog itself
  pub free-other : (i : Id) → is_free_at d leaves i ≡ true → (i.0 == d.node.id.0) ≡ false
  free-other i e =
      option_cases (leaf_at d i) (λ o. is_free_leaf d leaves o ≡ true → (i.0 == d.node.id.0) ≡ false)
      (λ none f. absurd (false≢true f))
      (λ leaf found f.
      ap (λ id. id.0 == d.node.id.0) (sym (leaf_at-is d i leaf found))
      ∙ leaf_at-all (λ other. (other.node.id.0 == d.node.id.0) ≡ false) d i leaf (own-fails d lawful) found) e
