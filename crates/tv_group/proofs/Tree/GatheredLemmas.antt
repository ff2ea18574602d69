-- The record of a dialog's fields, gathered from its tree: into an empty record, or into one that has them already.
use Rattle.std.proofs.Common.{◌≡◌, Bool, true, false, cond, ◌||◌, ◌==◌, nat_lt, if◌then◌else◌, List, [], ◌∷◌, ◌++◌, map, filter, find, filter_map, length, get_or, Option, Some, None, option_map, is_some, refl, sym, ap, ◌∙◌, All, ◌⊎◌, inl, inr, append_assoc}
use Rattle.std.specs.List.{cons_option}
use Rattle.std.specs.Option.{option_or}
use Rattle.std.proofs.lemmas.Bool.{false≢true}
use Rattle.std.proofs.lemmas.List.Elements.{All-head, All-tail}
use Rattle.tv_model.specs.declared.node.Id.{Id}
use Rattle.tv_model.specs.declared.record.Entry.{Entry}
use Rattle.tv_model.specs.declared.record.Value.{Value}
use Rattle.tv_model.specs.declared.desc.Dialog.{Dialog}
use Rattle.tv_model.specs.Log.Record.{Entries, value_of, with_value}
use Rattle.tv_machine.specs.State.{LeafState}
use Rattle.tv_machine.specs.Leaves.{PlacedNode, leaf_list}
use Rattle.tv_machine.specs.Dialog.Ending.{entry_of, fields_of}
use Rattle.tv_machine.specs.Dialog.Rules.{content_by, is_among, state_of}
use Rattle.tv_machine.specs.Dialog.Modal.{Modal, content_at}
use Rattle.tv_machine.specs.Safe.{field_ids, is_field}
use Rattle.tv_view.specs.Calls.{gathered, with_field}
use Rattle.tv_group.specs.Calls.{gathered_within}
use Rattle.tv_machine.specs.Dialog.Lawful.{IsLawfulDialog}
use Rattle.tv_group.specs.Tree.{IsSteady, placed_as, tree_as}
use Rattle.tv_machine.proofs.EntryLemmas.{entries_are, entry_at, entry_with, none_behind}
use Rattle.tv_group.proofs.Tree.EndingLemmas.{gathered-tree, states-apart}
use Rattle.tv_machine.proofs.ListLemmas.{AreApart, bool_cases, either-same, find-member, find-none, has, id-itself, id-swap, others-fail, same-id}
use Rattle.tv_machine.proofs.MarkLemmas.{value_by}
use Rattle.tv_group.proofs.Tree.OpeningLemmas.{steady_field}
use Rattle.tv_machine.proofs.LeafLemmas.{HasLeaves, ids-apart, leaf_id, leaves-are, state_id}
use Rattle.tv_group.proofs.Tree.TreeLemmas.{steady-leaf}

-- ---- the ids of gathered values

abbrev entry_id : Entry → Id
entry_id entry = entry.id

abbrev is_field_leaf : PlacedNode → Bool
is_field_leaf leaf = is_field leaf.node.kind

-- each of the leaves has a value where it is a field
abbrev AreHeld : Modal → List PlacedNode → Type 0
AreHeld m xs = All (λ leaf. is_some (content_at m leaf.node.id).value ≡ is_field leaf.node.kind) xs

held_ids : (m : Modal) (xs : List PlacedNode) → AreHeld m xs
    → map entry_id (filter_map (entry_at m) xs) ≡ map leaf_id (filter is_field_leaf xs)
held_ids m [] held = refl
held_ids m (x ∷ xs) held =
    ids_at x (content_at m x.node.id).value (is_field x.node.kind) (filter_map (entry_at m) xs) (filter is_field_leaf xs)
    (All-head (λ leaf. is_some (content_at m leaf.node.id).value ≡ is_field leaf.node.kind) x xs held)
    (held_ids m xs (All-tail (λ leaf. is_some (content_at m leaf.node.id).value ≡ is_field leaf.node.kind) x xs held))
  where
    ids_at : (x : PlacedNode) (value : Option Value) (b : Bool) (entries : Entries) (leaves : List PlacedNode) → is_some value ≡ b
        → map entry_id entries ≡ map leaf_id leaves
        → map entry_id (cons_option (option_map (entry_with x.node.id) value) entries) ≡ map leaf_id (cond b (x ∷ leaves) leaves)
    ids_at x None false entries leaves is same = same
    ids_at x None true entries leaves is same = absurd (false≢true is)
    ids_at x (Some value) true entries leaves is same = ap (λ ids. x.node.id ∷ ids) same
    ids_at x (Some value) false entries leaves is same = absurd (false≢true (sym is))

-- ---- values that are gathered again

-- the entry of the id behind others has the value
value_behind : (before : Entries) (e : Entry) (after : Entries) (value : Value) → value_of before e.id.0 ≡ None
    → with_value (before ++ e ∷ after) e.id value ≡ before ++ entry_with e.id value ∷ after
value_behind [] e after value open_here =
    ap (λ b. if b then entry_with e.id value ∷ after else e ∷ with_value after e.id value) (id-itself e.id)
value_behind (x ∷ before) e after value open_here =
    bool_cases (x.id.0 == e.id.0)
    (λ b. (if b then Some x.value else value_of before e.id.0) ≡ None
    → (if b then entry_with x.id value ∷ (before ++ e ∷ after) else x ∷ with_value (before ++ e ∷ after) e.id value)
    ≡ x ∷ (before ++ entry_with e.id value ∷ after))
    (λ is f. absurd cc) (λ is f. ap (λ ys. x ∷ ys) (value_behind before e after value f)) open_here

there_behind : (before : Entries) (e : Entry) (after : Entries) → is_some (value_of (before ++ e ∷ after) e.id.0) ≡ true
there_behind [] e after = ap (λ b. is_some (if b then Some e.value else value_of after e.id.0)) (id-itself e.id)
there_behind (x ∷ before) e after =
    bool_cases (x.id.0 == e.id.0) (λ b. is_some (if b then Some x.value else value_of (before ++ e ∷ after) e.id.0) ≡ true) (λ is. refl)
    (λ is. there_behind before e after)

module _ (d : Dialog) (ruled : List LeafState) (m : Modal) where
  abbrev gathered_on : List PlacedNode → Entries → Entries
  gathered_on xs entries = gathered_within (map (placed_as d ruled m) xs) entries

  abbrev IsAbsent : Entries → PlacedNode → Type 0
  IsAbsent entries leaf = value_of entries leaf.node.id.0 ≡ None

  -- the entries before are those of earlier leaves, and the others those of the leaves
  abbrev Regathers : List PlacedNode → Type 0
  Regathers xs = (before after : Entries) → All (IsAbsent before) xs → map entry_id after ≡ map leaf_id (filter is_field_leaf xs)
      → gathered_on xs (before ++ after) ≡ before ++ filter_map (entry_at m) xs

  -- one leaf, by what it holds
  regathers_one : (x : PlacedNode) (xs : List PlacedNode) → is_among (map leaf_id xs) x.node.id ≡ false → Regathers xs
      → (value : Option Value) (b : Bool) → is_some value ≡ b → (before after : Entries) → IsAbsent before x → All (IsAbsent before) xs
      → map entry_id after ≡ map leaf_id (cond b (x ∷ filter is_field_leaf xs) (filter is_field_leaf xs))
      → gathered_on xs
      (if is_some (value_of (before ++ after) x.node.id.0) || nat_lt (length (before ++ after)) 64
      then with_field value x.node.id (before ++ after) else before ++ after)
      ≡ before ++ cons_option (option_map (entry_with x.node.id) value) (filter_map (entry_at m) xs)
  regathers_one x xs apart ih None true is before after here behind same = absurd (false≢true is)
  regathers_one x xs apart ih None false is before after here behind same =
      ap (gathered_on xs)
      (either-same (is_some (value_of (before ++ after) x.node.id.0) || nat_lt (length (before ++ after)) 64) (before ++ after))
      ∙ ih before after behind same
  regathers_one x xs apart ih (Some value) false is before after here behind same = absurd (false≢true (sym is))
  regathers_one x xs apart ih (Some value) true is before [] here behind same = absurd cc
  regathers_one x xs apart ih (Some value) true is before (e ∷ after) here behind same =
      let first : e.id ≡ x.node.id = cc in
      let others : map entry_id after ≡ map leaf_id (filter is_field_leaf xs) = cc in
      let now = entry_with x.node.id value in
      let all = before ++ e ∷ after in
      ap (λ b. gathered_on xs (if b || nat_lt (length all) 64 then with_value all x.node.id value else all))
      (ap (λ i. is_some (value_of all i.0)) (sym first) ∙ there_behind before e after)
      ∙ ap (λ i. gathered_on xs (with_value all i value)) (sym first)
      ∙ ap (gathered_on xs) (value_behind before e after value (ap (λ i. value_of before i.0) first ∙ here))
      ∙ ap (λ i. gathered_on xs (before ++ entry_with i value ∷ after)) first
      ∙ ap (gathered_on xs) (sym (append_assoc before (now ∷ []) after))
      ∙ ih (before ++ now ∷ []) after
      (λ k f h. none_behind before now (get_or xs k f).node.id.0 (behind k f h)
      (id-swap x.node.id (get_or xs k f).node.id ∙ others-fail leaf_id xs x.node.id apart k f h)) others
      ∙ append_assoc before (now ∷ []) (filter_map (entry_at m) xs)

  regathers : (xs : List PlacedNode) → AreApart (map leaf_id xs) → AreHeld m xs → Regathers xs
  unfolding gathered
  regathers [] apart held before [] absent same = refl
  regathers [] apart held before (e ∷ after) absent same = absurd cc
  regathers (x ∷ xs) apart held before after absent same =
      regathers_one x xs apart.0
      (λ some others fits ids. regathers xs apart.1
      (All-tail (λ leaf. is_some (content_at m leaf.node.id).value ≡ is_field leaf.node.kind) x xs held) some others fits ids)
      (content_at m x.node.id).value (is_field x.node.kind)
      (All-head (λ leaf. is_some (content_at m leaf.node.id).value ≡ is_field leaf.node.kind) x xs held)
      before after (All-head (IsAbsent before) x xs absent) (All-tail (IsAbsent before) x xs absent) same

-- a record that is empty, or has the fields of the dialog in order
abbrev pub AreFields : Dialog → Entries → Type 0
AreFields d entries = (entries ≡ []) ⊎ (map (λ entry. entry.id) entries ≡ field_ids d)

or_none : {A : Type 0} (o : Option A) → option_or o None ≡ o
or_none None = refl
or_none (Some x) = refl

value_cons : (j i : Id) (value : Option Value) (rest : Entries)
    → value_of (cons_option (option_map (entry_with j) value) rest) i.0
    ≡ (if j.0 == i.0 then option_or value (value_of rest i.0) else value_of rest i.0)
value_cons j i None rest = sym (either-same (j.0 == i.0) (value_of rest i.0))
value_cons j i (Some value) rest = refl

-- the value of an id, where no two leaves have the same
value_held : (states : List LeafState) (i : Id) → AreApart (map state_id states)
    → value_of (filter_map entry_of states) i.0 ≡ (content_by false (find (has state_id i) states)).value
value_held [] i apart = refl
value_held (s ∷ states) i apart =
    let rest = filter_map entry_of states in
    value_cons s.id i s.value rest
    ∙ bool_cases (s.id.0 == i.0)
    (λ b. (if b then option_or s.value (value_of rest i.0) else value_of rest i.0)
    ≡ (content_by false (cond b (Some s) (find (has state_id i) states))).value)
    (λ here.
    let absent = others-fail state_id states i (ap (is_among (map state_id states)) (sym (same-id s.id i here)) ∙ apart.0) in
    ap (option_or s.value)
    (value_held states i apart.1 ∙ ap (λ o. (content_by false o).value) (find-none (has state_id i) states absent))
    ∙ or_none s.value)
    (λ there. value_held states i apart.1)

module _ (d : Dialog) (lawful : IsLawfulDialog d) (m : Modal) (leaves : HasLeaves d m) where
  pub value-fields : (i : Id) → value_of (fields_of m.leaves) i.0 ≡ (content_at m i).value
  value-fields i = value_held m.leaves i (states-apart d lawful m leaves) ∙ sym (value_by (is_among m.overwriting i) (state_of m.leaves i))

  own_entries : filter_map (entry_at m) (leaf_list d.views) ≡ fields_of m.leaves
  own_entries = entries_are m (leaf_list d.views) m.leaves leaves (find-member state_id m.leaves (states-apart d lawful m leaves))

module _ (d : Dialog) (lawful : IsLawfulDialog d) (m : Modal) (steady : IsSteady d m) where
  all_held : AreHeld m (leaf_list d.views)
  all_held = leaves-are d lawful (λ leaf. is_some (content_at m leaf.node.id).value ≡ is_field leaf.node.kind)
      (λ leaf e. steady_field (leaf.node.id.0 == m.focus.0) leaf.node.kind (content_at m leaf.node.id)
      (steady-leaf d lawful m steady leaf e))

  -- the fields of a steady dialog are those of its description
  pub fields-ids : map (λ entry. entry.id) (fields_of m.leaves) ≡ field_ids d
  fields-ids = ap (map entry_id) (sym (own_entries d lawful m steady.leaves)) ∙ held_ids m (leaf_list d.views) all_held

  pub fields-are : AreFields d (fields_of m.leaves)
  fields-are = inr fields-ids

  -- the record has the values of the dialog's fields, whatever values it had of them
  pub gathered-again : (ruled : List LeafState) (entries : Entries) → AreFields d entries
      → gathered_within (tree_as d ruled m) entries ≡ fields_of m.leaves
  gathered-again ruled entries (inl e) = ap (gathered_within (tree_as d ruled m)) e ∙ gathered-tree d lawful ruled m steady.leaves
  gathered-again ruled entries (inr e) =
      regathers d ruled m (leaf_list d.views) (ids-apart d lawful) all_held [] entries (λ k f h. refl) e
      ∙ own_entries d lawful m steady.leaves
