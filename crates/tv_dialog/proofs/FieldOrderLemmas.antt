-- A record taken in the order of a dialog's fields: it has a value for each, the one that the record has.
use Rattle.std.proofs.Common.{◌≡◌, Bool, true, false, cond, ◌||◌, ◌==◌, if◌then◌else◌, List, [], ◌∷◌, map, filter, filter_map, find, get_or, Option, Some, None, option_map, is_some, refl, sym, ap, subst, ◌∙◌, All}
use Rattle.std.specs.List.{cons_option}
use Rattle.std.specs.Option.{option_or}
use Rattle.std.proofs.lemmas.Bool.{or_parts, or_from}
use Rattle.std.proofs.lemmas.List.Elements.{All-nil, All-cons, All-head, All-map, All-tail}
use Rattle.tv_model.specs.declared.node.Id.{Id}
use Rattle.tv_model.specs.declared.kind.Kind.{Kind}
use Rattle.tv_model.specs.declared.record.Entry.{Entry}
use Rattle.tv_model.specs.declared.record.Value.{Value}
use Rattle.tv_model.specs.declared.desc.Dialog.{Dialog}
use Rattle.tv_model.specs.Log.Record.{Entries, value_of}
use Rattle.tv_machine.specs.State.{LeafState}
use Rattle.tv_machine.specs.Leaves.{PlacedNode, leaf_list}
use Rattle.tv_machine.specs.Dialog.Lawful.{IsLawfulDialog}
use Rattle.tv_machine.specs.Dialog.Modal.{Modal, content_at}
use Rattle.tv_machine.specs.Dialog.Rules.{is_among}
use Rattle.tv_machine.specs.Safe.{field_ids, is_field}
use Rattle.tv_machine.proofs.LeafLemmas.{IsIn, ids-apart, leaf_at-all, leaf_id, leaves-are, leaves-same}
use Rattle.tv_machine.proofs.ListLemmas.{All-unmap, AreApart, any-found, bool_cases, either-same, find-member, has, map-map, on_found, option_cases, same-id}
use Rattle.tv_view.specs.Calls as calls
use Rattle.tv_view.specs.Meaning.{Placed}
use Rattle.tv_group.specs.Calls.{FitsAll, all_set, in_place_unmarked}
use Rattle.tv_group.specs.Tree.{IsSteady, placed_as, tree_as}
use Rattle.tv_machine.proofs.EntryLemmas.{entry_with}
use Rattle.tv_group.proofs.Tree.OpeningLemmas.{among_filtered, steady_field}
use Rattle.tv_group.proofs.Tree.TreeLemmas.{steady-leaf}
use Rattle.tv_dialog.specs.Fields.{entry_in, in_field_order}
use Rattle.tv_dialog.proofs.FreshLemmas.{set_place}

abbrev entry_id : Entry → Id
entry_id entry = entry.id

abbrev is_field_leaf : PlacedNode → Bool
is_field_leaf leaf = is_field leaf.node.kind

-- ---- the values of some ids

or_missing : (value : Option Value) (b : Bool) → option_or value (if b then value else None) ≡ value
or_missing None true = refl
or_missing None false = refl
or_missing (Some value) b = refl

value_first : (i j : Id) (value : Option Value) (rest : Entries)
    → value_of (cons_option (option_map (entry_with j) value) rest) i.0
    ≡ (if j.0 == i.0 then option_or value (value_of rest i.0) else value_of rest i.0)
value_first i j None rest = sym (either-same (j.0 == i.0) (value_of rest i.0))
value_first i j (Some value) rest = refl

-- the ids that are asked for have the values that they had
value_taken : (entries : Entries) (i : Id) (ids : List Id)
    → value_of (filter_map (entry_in entries) ids) i.0 ≡ (if is_among ids i then value_of entries i.0 else None)
value_taken entries i [] = refl
value_taken entries i (j ∷ ids) =
    let rest = filter_map (entry_in entries) ids in
    let later = value_taken entries i ids in
    value_first i j (value_of entries j.0) rest
    ∙ bool_cases (j.0 == i.0)
    (λ b. (if b then option_or (value_of entries j.0) (value_of rest i.0) else value_of rest i.0)
    ≡ (if b || is_among ids i then value_of entries i.0 else None))
    (λ here.
    ap (λ (k : Id). option_or (value_of entries k.0) (value_of rest i.0)) (same-id j i here)
    ∙ ap (option_or (value_of entries i.0)) later ∙ or_missing (value_of entries i.0) (is_among ids i))
    (λ there. later)

abbrev HasValueAt : Entries → Id → Type 0
HasValueAt entries i = is_some (value_of entries i.0) ≡ true

-- where each has a value they are those of the entries
ids_taken : (entries : Entries) (ids : List Id) → All (HasValueAt entries) ids → map entry_id (filter_map (entry_in entries) ids) ≡ ids
ids_taken entries [] all = refl
ids_taken entries (i ∷ ids) all =
    option_cases (value_of entries i.0)
    (λ o. is_some o ≡ true → map entry_id (cons_option (option_map (entry_with i) o) (filter_map (entry_in entries) ids)) ≡ i ∷ ids)
    (λ none e. absurd cc)
    (λ value some e. ap (λ js. i ∷ js) (ids_taken entries ids (All-tail (HasValueAt entries) i ids all)))
    (All-head (HasValueAt entries) i ids all)

-- ---- entries whose ids differ

value_found : (entries : Entries) (i : Id) → value_of entries i.0 ≡ option_map (λ entry. entry.value) (find (has entry_id i) entries)
value_found [] i = refl
value_found (e ∷ entries) i =
    bool_cases (e.id.0 == i.0)
    (λ b. (if b then Some e.value else value_of entries i.0)
    ≡ option_map (λ entry. entry.value) (cond b (Some e) (find (has entry_id i) entries)))
    (λ here. refl) (λ there. value_found entries i)

-- they are taken as they are
entries_taken : (entries taken : Entries) → All (λ entry. value_of entries entry.id.0 ≡ Some entry.value) taken
    → filter_map (entry_in entries) (map entry_id taken) ≡ taken
entries_taken entries [] all = refl
entries_taken entries (e ∷ taken) all =
    ap (λ o. cons_option (option_map (entry_with e.id) o) (filter_map (entry_in entries) (map entry_id taken)))
    (All-head (λ entry. value_of entries entry.id.0 ≡ Some entry.value) e taken all)
    ∙ ap (λ es. e ∷ es) (entries_taken entries taken (All-tail (λ entry. value_of entries entry.id.0 ≡ Some entry.value) e taken all))

filter_absent : (xs : List PlacedNode) (i : Id) → is_among (map leaf_id xs) i ≡ false
    → is_among (map leaf_id (filter is_field_leaf xs)) i ≡ false
filter_absent [] i e = refl
filter_absent (x ∷ xs) i e =
    let parts = or_parts (x.node.id.0 == i.0) (is_among (map leaf_id xs) i) e in
    bool_cases (is_field_leaf x)
    (λ b. is_among (map leaf_id (cond b (x ∷ filter is_field_leaf xs) (filter is_field_leaf xs))) i ≡ false)
    (λ is. or_from (x.node.id.0 == i.0) (is_among (map leaf_id (filter is_field_leaf xs)) i) parts.0 (filter_absent xs i parts.1))
    (λ is. filter_absent xs i parts.1)

filter_apart : (xs : List PlacedNode) → AreApart (map leaf_id xs) → AreApart (map leaf_id (filter is_field_leaf xs))
filter_apart [] apart = tt
filter_apart (x ∷ xs) apart =
    bool_cases (is_field_leaf x)
    (λ b. AreApart (map leaf_id (cond b (x ∷ filter is_field_leaf xs) (filter is_field_leaf xs))))
    (λ is. (filter_absent xs x.node.id apart.0, filter_apart xs apart.1)) (λ is. filter_apart xs apart.1)

-- ---- what a record that fits has

value_there : (b : Bool) (kind : Kind) (value : Option Value) → calls.IsValueIf b kind value → b ≡ true → is_some value ≡ true
value_there true kind None fits is = absurd fits
value_there true kind (Some value) fits is = refl
value_there false kind value fits is = absurd cc

fits_if : (b : Bool) (kind : Kind) (value other : Option Value) → (b ≡ true → other ≡ value) → calls.IsValueIf b kind value → calls.IsValueIf b kind other
fits_if true kind value other same fits = subst (calls.IsValueIf true kind) (sym (same refl)) fits
fits_if false kind value other same fits = tt

-- fields have values, so the ids of the fields do
ids_have : (entries : Entries) (xs : List PlacedNode) → All (λ leaf. calls.IsFieldValue leaf.node.kind (value_of entries leaf.node.id.0)) xs
    → All (HasValueAt entries) (map leaf_id (filter is_field_leaf xs))
ids_have entries [] fits = All-nil (HasValueAt entries)
ids_have entries (x ∷ xs) fits =
    let later = ids_have entries xs (All-tail (λ leaf. calls.IsFieldValue leaf.node.kind (value_of entries leaf.node.id.0)) x xs fits) in
    bool_cases (is_field_leaf x)
    (λ b. is_field_leaf x ≡ b → All (HasValueAt entries) (map leaf_id (cond b (x ∷ filter is_field_leaf xs) (filter is_field_leaf xs))))
    (λ is e. All-cons (HasValueAt entries) x.node.id (map leaf_id (filter is_field_leaf xs))
    (value_there (is_field_leaf x) x.node.kind (value_of entries x.node.id.0)
    (All-head (λ leaf. calls.IsFieldValue leaf.node.kind (value_of entries leaf.node.id.0)) x xs fits) e) later)
    (λ is e. later) refl

set_alike : (field : Bool) (found other : Option Value) (x : Placed) → (field ≡ true → found ≡ other) → set_place field found x ≡ set_place field other x
set_alike true found other x same = ap (λ o. set_place true o x) (same refl)
set_alike false found other x same = refl

held_field : (value : Option Value) → calls.has_field_value value ≡ is_some value
held_field None = refl
held_field (Some value) = refl

module _ (d : Dialog) (lawful : IsLawfulDialog d) (entries : Entries) where
  field_among : (leaf : PlacedNode) → IsIn d leaf → is_among (field_ids d) leaf.node.id ≡ is_field leaf.node.kind
  field_among leaf e =
      among_filtered is_field_leaf leaf.node.id (leaf_list d.views)
      ∙ any-found leaf_id leaf.node.id is_field_leaf (leaf_list d.views) (ids-apart d lawful)
      ∙ ap (on_found leaf_id is_field_leaf) e

  -- a field has the value that the record has for it
  value-ordered : (leaf : PlacedNode) → IsIn d leaf → is_field leaf.node.kind ≡ true
      → value_of (in_field_order d entries) leaf.node.id.0 ≡ value_of entries leaf.node.id.0
  value-ordered leaf e field =
      value_taken entries leaf.node.id (field_ids d)
      ∙ ap (λ b. if b then value_of entries leaf.node.id.0 else None) (field_among leaf e ∙ field)

  -- a record of the fields in order is taken as it is
  pub ordered-itself : map (λ entry. entry.id) entries ≡ field_ids d → in_field_order d entries ≡ entries
  ordered-itself fields =
      let apart = subst AreApart (sym fields) (filter_apart (leaf_list d.views) (ids-apart d lawful)) in
      ap (filter_map (entry_in entries)) (sym fields)
      ∙ entries_taken entries entries
      (λ k e h. value_found entries (get_or entries k e).id ∙ ap (option_map (λ entry. entry.value)) (find-member entry_id entries apart k e h))

  module _ (ruled : List LeafState) (m : Modal) (fits : FitsAll entries (tree_as d ruled m)) where
    leaves_fit : All (λ leaf. calls.IsFieldValue leaf.node.kind (value_of entries leaf.node.id.0)) (leaf_list d.views)
    unfolding calls.Fits
    leaves_fit = All-unmap (λ x. calls.Fits entries x.leaf) (placed_as d ruled m) (leaf_list d.views) fits

    -- it has the fields of the dialog, in order
    pub ordered-fields : map (λ entry. entry.id) (in_field_order d entries) ≡ field_ids d
    ordered-fields = ids_taken entries (field_ids d) (ids_have entries (leaf_list d.views) leaves_fit)

    -- it fits as the record does
    pub ordered-fits : FitsAll (in_field_order d entries) (tree_as d ruled m)
    unfolding calls.Fits
    ordered-fits =
        All-map (λ x. calls.Fits (in_field_order d entries) x.leaf) (placed_as d ruled m) (leaf_list d.views)
        (leaves-are d lawful (λ leaf. calls.Fits (in_field_order d entries) (placed_as d ruled m leaf).leaf)
        (λ leaf e. fits_if (is_field leaf.node.kind) leaf.node.kind (value_of entries leaf.node.id.0)
        (value_of (in_field_order d entries) leaf.node.id.0) (value-ordered leaf e)
        (leaf_at-all (λ other. calls.IsFieldValue other.node.kind (value_of entries other.node.id.0)) d leaf.node.id leaf leaves_fit e)))

  -- to set its values is to set the record's
  pub set-ordered : (ruled : List LeafState) (m : Modal) → IsSteady d m
      → all_set entries (tree_as d ruled m) ≡ all_set (in_field_order d entries) (tree_as d ruled m)
  unfolding all_set calls.set_from
  set-ordered ruled m steady =
      map-map (placed_as d ruled m) (in_place_unmarked (calls.set_from entries)) (leaf_list d.views)
      ∙ leaves-same d lawful (λ leaf. in_place_unmarked (calls.set_from entries) (placed_as d ruled m leaf))
      (λ leaf. in_place_unmarked (calls.set_from (in_field_order d entries)) (placed_as d ruled m leaf))
      (λ leaf e.
      let c = content_at m leaf.node.id in
      let is = steady_field (leaf.node.id.0 == m.focus.0) leaf.node.kind c (steady-leaf d lawful m steady leaf e) in
      set_alike (calls.has_field_value c.value) (value_of entries leaf.node.id.0) (value_of (in_field_order d entries) leaf.node.id.0)
      (placed_as d ruled m leaf)
      (λ has. sym (value-ordered leaf e (sym is ∙ sym (held_field c.value) ∙ has))))
      ∙ sym (map-map (placed_as d ruled m) (in_place_unmarked (calls.set_from (in_field_order d entries))) (leaf_list d.views))
