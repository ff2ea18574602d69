-- A dialog opens with the record that was saved of it, and where none was saved with what is declared.
use Rattle.std.proofs.Common.{◌≡◌, Bool, true, false, cond, ◌==◌, List, [], ◌∷◌, map, filter, filter_map, find, get_or, Option, Some, None, option_map, is_some, refl, sym, ap, subst, ◌∙◌, All}
use Rattle.std.specs.List.{cons_option}
use Rattle.std.specs.Option.{option_or}
use Rattle.std.proofs.lemmas.Bool.{false≢true, or_parts, or_from}
use Rattle.std.proofs.lemmas.List.Elements.{All-head, All-tail}
use Rattle.tv_model.specs.declared.node.Id.{Id}
use Rattle.tv_model.specs.declared.kind.Input.{Input}
use Rattle.tv_model.specs.declared.kind.Kind.{Kind}
use Rattle.tv_model.specs.declared.kind.Kind.TheVariants as kinds
use Rattle.tv_model.specs.declared.desc.Dialog.{Dialog}
use Rattle.tv_model.specs.declared.record.Entry.{Entry}
use Rattle.tv_model.specs.declared.record.Value.{Value}
use Rattle.tv_model.specs.declared.record.Value.TheVariants as values
use Rattle.tv_model.specs.Kinds.InputLine.{entered, left}
use Rattle.tv_model.specs.Log.Record.{Entries, value_of}
use Rattle.tv_machine.specs.Controls.Declared.{declared_value}
use Rattle.tv_machine.specs.Leaves.{PlacedNode, leaf_list}
use Rattle.tv_model.specs.Controls.Contents.{Content, text_of}
use Rattle.tv_machine.specs.Dialog.Ending.{entry_of, fields_of}
use Rattle.tv_machine.specs.Dialog.Focus.{focus_moved}
use Rattle.tv_machine.specs.Dialog.Modal.{Modal, content_at}
use Rattle.tv_machine.specs.Dialog.Opening.{first_focus, opened_leaf, opened_leaves, unfocused}
use Rattle.tv_machine.specs.Dialog.Rules.{is_among}
use Rattle.tv_machine.specs.Safe.{HasValueOf, IsSafeRecord, field_ids, is_field}
use Rattle.tv_laws.specs.Fit.{IsStanding}
use Rattle.tv_laws.specs.Records.{OpensAsSaved, opened_record}
use Rattle.tv_laws.specs.Sound.{IsSoundDialog}
use Rattle.tv_laws.specs.Steps.{IsSafeSave}
use Rattle.tv_machine.proofs.RefocusLemmas.{content_at-moved, leaves-moved, moved_content, refocused_content}
use Rattle.tv_machine.proofs.LeafLemmas.{IsIn, ids-apart, leaf_id, leaves-are}
use Rattle.tv_machine.proofs.ListLemmas.{AreApart, bool_cases, find-member, has, option_cases}
use Rattle.tv_laws.proofs.OpenLemmas.{recorded_value, standing_before}
use Rattle.tv_laws.proofs.RecordLemmas.{fields-are, value-field}
use Rattle.tv_machine.proofs.EntryLemmas.{entry_at, entry_with}
use Rattle.tv_laws.proofs.StandLemmas.{standing-leaf}

-- ---- lists

filter_map_same : {A B : Type 0} (f g : A → Option B) (xs : List A) → All (λ x. f x ≡ g x) xs → filter_map f xs ≡ filter_map g xs
filter_map_same f g [] all = refl
filter_map_same f g (x ∷ xs) all =
    ap (λ o. cons_option o (filter_map f xs)) (All-head (λ y. f y ≡ g y) x xs all)
    ∙ ap (cons_option (g x)) (filter_map_same f g xs (All-tail (λ y. f y ≡ g y) x xs all))

filter_map_map : {A B C : Type 0} (f : A → B) (g : B → Option C) (xs : List A) → filter_map g (map f xs) ≡ filter_map (λ x. g (f x)) xs
filter_map_map f g [] = refl
filter_map_map f g (x ∷ xs) = ap (cons_option (g (f x))) (filter_map_map f g xs)

filter_absent : (p : PlacedNode → Bool) (xs : List PlacedNode) (i : Id) → is_among (map leaf_id xs) i ≡ false
    → is_among (map leaf_id (filter p xs)) i ≡ false
filter_absent p [] i e = refl
filter_absent p (x ∷ xs) i e =
    let parts = or_parts (x.node.id.0 == i.0) (is_among (map leaf_id xs) i) e in
    bool_cases (p x) (λ b. is_among (map leaf_id (cond b (x ∷ filter p xs) (filter p xs))) i ≡ false)
    (λ is. or_from (x.node.id.0 == i.0) (is_among (map leaf_id (filter p xs)) i) parts.0 (filter_absent p xs i parts.1))
    (λ is. filter_absent p xs i parts.1)

filter_apart : (p : PlacedNode → Bool) (xs : List PlacedNode) → AreApart (map leaf_id xs) → AreApart (map leaf_id (filter p xs))
filter_apart p [] apart = tt
filter_apart p (x ∷ xs) apart =
    bool_cases (p x) (λ b. AreApart (map leaf_id (cond b (x ∷ filter p xs) (filter p xs))))
    (λ is. (filter_absent p xs x.node.id apart.0, filter_apart p xs apart.1)) (λ is. filter_apart p xs apart.1)

-- ---- values stay where the focus moves

input_value : (input : Input) (v : Option Value) → HasValueOf (kinds.Input input) v → Some (values.Text (text_of v)) ≡ v
input_value input None h = absurd (false≢true (sym h))
input_value input (Some (values.Text text)) h = refl
input_value input (Some (values.Marks marks)) h = absurd h
input_value input (Some (values.Item item)) h = absurd h

entered_value : (k : Kind) (c : Content) → HasValueOf k c.value → (refocused_content entered k c).value ≡ c.value
entered_value (kinds.Input input) c h = input_value input c.value h
entered_value _ c h = refl

left_value : (k : Kind) (c : Content) → HasValueOf k c.value → (refocused_content left k c).value ≡ c.value
left_value (kinds.Input input) c h = input_value input c.value h
left_value _ c h = refl

moved_value : (to from : Bool) (k : Kind) (c : Content) → HasValueOf k c.value → (moved_content to from k c).value ≡ c.value
moved_value true true k c h =
    entered_value k (refocused_content left k c) (subst (HasValueOf k) (sym (left_value k c h)) h) ∙ left_value k c h
moved_value true false k c h = entered_value k c h
moved_value false true k c h = left_value k c h
moved_value false false k c h = refl

-- ---- entries by their ids

abbrev entry_id : Entry → Id
entry_id entry = entry.id

value_found : (entries : Entries) (i : Id) → value_of entries i.0 ≡ option_map (λ entry. entry.value) (find (has entry_id i) entries)
value_found [] i = refl
value_found (x ∷ entries) i =
    bool_cases (x.id.0 == i.0)
    (λ b. cond b (Some x.value) (value_of entries i.0) ≡ option_map (λ entry. entry.value) (cond b (Some x) (find (has entry_id i) entries)))
    (λ is. refl) (λ is. value_found entries i)

-- the record has the entry by its id
abbrev IsOwn : Entries → Entry → Type 0
IsOwn all entry = value_of all entry.id.0 ≡ Some entry.value

own_values : (entries : Entries) → AreApart (map entry_id entries) → All (IsOwn entries) entries
own_values entries apart = λ k e h.
    value_found entries (get_or entries k e).id ∙ ap (option_map (λ entry. entry.value)) (find-member entry_id entries apart k e h)

none_declared : (k : Kind) → is_field k ≡ false → declared_value k ≡ None
none_declared k e = option_cases (declared_value k) (λ o. is_some o ≡ false → o ≡ None) (λ none g. refl) (λ v is g. absurd (false≢true (sym g))) e

abbrev field_of : PlacedNode → Bool
field_of leaf = is_field leaf.node.kind

-- the entry of a leaf as it opens with a record
abbrev opened_entry : Option Entries → PlacedNode → Option Entry
opened_entry saved leaf = entry_of (opened_leaf saved leaf.node)

-- a leaf that is no field has no value in the record
abbrev IsBeside : Entries → PlacedNode → Type 0
IsBeside all leaf = field_of leaf ≡ false → value_of all leaf.node.id.0 ≡ None

-- the entries of a record from one of its fields on, where those after it are given
shown_field : (all : Entries) (x : PlacedNode) (ids : List Id) (rest entries : Entries) → map entry_id entries ≡ x.node.id ∷ ids
    → All (IsOwn all) entries → ((later : Entries) → map entry_id later ≡ ids → All (IsOwn all) later → rest ≡ later)
    → cons_option (opened_entry (Some all) x) rest ≡ entries
shown_field all x ids rest [] same own more = absurd cc
shown_field all x ids rest (y ∷ later) same own more =
    let at : y.id ≡ x.node.id = cc in
    let tail : map entry_id later ≡ ids = cc in
    let value : value_of all x.node.id.0 ≡ Some y.value = ap (λ i. value_of all i.0) (sym at) ∙ All-head (IsOwn all) y later own in
    ap (λ v. cons_option (option_map (entry_with x.node.id) (option_or v (declared_value x.node.kind))) rest) value
    ∙ ap (λ i. entry_with i y.value ∷ rest) (sym at)
    ∙ ap (λ entries. y ∷ entries) (more later tail (All-tail (IsOwn all) y later own))

-- the leaves of a record's fields have its entries, in order
shown_entries : (all : Entries) (xs : List PlacedNode) (entries : Entries) → map entry_id entries ≡ map leaf_id (filter field_of xs)
    → All (IsOwn all) entries → All (IsBeside all) xs
    → filter_map (opened_entry (Some all)) xs ≡ entries
shown_entries all [] [] ids own beside = refl
shown_entries all [] (e ∷ entries) ids own beside = absurd cc
shown_entries all (x ∷ xs) entries ids own beside =
    let rest = filter_map (opened_entry (Some all)) xs in
    let more = All-tail (IsBeside all) x xs beside in
    bool_cases (field_of x)
    (λ b. map entry_id entries ≡ map leaf_id (cond b (x ∷ filter field_of xs) (filter field_of xs)) → field_of x ≡ b
    → cons_option (opened_entry (Some all) x) rest ≡ entries)
    (λ is same g. shown_field all x (map leaf_id (filter field_of xs)) rest entries same own (λ later tail owned. shown_entries all xs later tail owned more))
    (λ is same g.
    ap (λ v. cons_option (option_map (entry_with x.node.id) (option_or v (declared_value x.node.kind))) rest) (All-head (IsBeside all) x xs beside g)
    ∙ ap (λ v. cons_option (option_map (entry_with x.node.id) v) rest) (none_declared x.node.kind g)
    ∙ shown_entries all xs entries same own more) ids refl

-- the ids of leaves with a value are those of the fields
field_id : (leaf : PlacedNode) (v : Option Value) (entries : Entries) (later : List PlacedNode) → field_of leaf ≡ is_some v
    → map entry_id entries ≡ map leaf_id later
    → map entry_id (cons_option (option_map (entry_with leaf.node.id) v) entries) ≡ map leaf_id (cond (field_of leaf) (leaf ∷ later) later)
field_id leaf None entries later is same = same ∙ ap (λ b. map leaf_id (cond b (leaf ∷ later) later)) (sym is)
field_id leaf (Some v) entries later is same =
    ap (λ ids. leaf.node.id ∷ ids) same ∙ ap (λ b. map leaf_id (cond b (leaf ∷ later) later)) (sym is)

abbrev HasValue : Modal → PlacedNode → Type 0
HasValue m leaf = HasValueOf leaf.node.kind (content_at m leaf.node.id).value

field_id_list : (m : Modal) (xs : List PlacedNode) → All (HasValue m) xs
    → map entry_id (filter_map (entry_at m) xs) ≡ map leaf_id (filter field_of xs)
field_id_list m [] all = refl
field_id_list m (x ∷ xs) all =
    let v = (content_at m x.node.id).value in
    field_id x v (filter_map (entry_at m) xs) (filter field_of xs) (value-field x.node.kind v (All-head (HasValue m) x xs all))
    (field_id_list m xs (All-tail (HasValue m) x xs all))

module _ (d : Dialog) (sound : IsSoundDialog d) where
  -- the entries of an open dialog are those of its fields
  pub standing-ids : (m : Modal) → IsStanding d m → map entry_id (fields_of m.leaves) ≡ field_ids d
  standing-ids m s =
      ap (map entry_id) (sym (fields-are d sound m s.leaves)) ∙ field_id_list m (leaf_list d.views) (λ k e h. (s.contents k e h).safe.value)

  -- ---- the fields where the focus moves

  pub fields-moved : (m : Modal) (i : Id) → IsStanding d m → fields_of (focus_moved d i m).leaves ≡ fields_of m.leaves
  fields-moved m i s =
      let n = focus_moved d i m in
      sym (fields-are d sound n (leaves-moved d sound.lawful m i s.leaves))
      ∙ filter_map_same (entry_at n) (entry_at m) (leaf_list d.views) (leaves-are d sound.lawful (λ leaf. entry_at n leaf ≡ entry_at m leaf) same)
      ∙ fields-are d sound m s.leaves
    where
      same : (leaf : PlacedNode) → IsIn d leaf → entry_at (focus_moved d i m) leaf ≡ entry_at m leaf
      same leaf e =
          ap (option_map (entry_with leaf.node.id))
          (ap (λ c. c.value) (content_at-moved d sound.lawful m i s.leaves leaf e)
          ∙ moved_value (leaf.node.id.0 == i.0) (leaf.node.id.0 == m.focus.0) leaf.node.kind (content_at m leaf.node.id) (standing-leaf d sound m s leaf e).safe.value)

  -- ---- the fields as a dialog opens

  fields_beside : (entries : Entries) → IsSafeRecord d entries → (leaf : PlacedNode) → IsIn d leaf → IsBeside entries leaf
  fields_beside entries safe leaf e none =
      option_cases (value_of entries leaf.node.id.0) (λ o. value_of entries leaf.node.id.0 ≡ o → o ≡ None) (λ is g. refl)
      (λ v is g. absurd (false≢true (sym none ∙ value-field leaf.node.kind (Some v) (recorded_value d sound leaf e entries v safe g)))) refl

  shown_record : (saved : Option Entries) → IsSafeSave d saved → filter_map (opened_entry saved) (leaf_list d.views) ≡ opened_record d saved
  shown_record None safe = refl
  shown_record (Some entries) safe =
      let is = safe entries refl in
      shown_entries entries (leaf_list d.views) entries is.fields
      (own_values entries (subst AreApart (sym is.fields) (filter_apart field_of (leaf_list d.views) (ids-apart d sound.lawful))))
      (leaves-are d sound.lawful (IsBeside entries) (fields_beside entries is))

  -- the fields of a dialog that opens are those of its record
  pub fields-opened : OpensAsSaved d
  fields-opened saved overwriting safe ordered =
      fields-moved (unfocused d saved overwriting) (first_focus d (opened_leaves d saved)) (standing_before d sound saved overwriting safe ordered)
      ∙ filter_map_map (λ leaf. opened_leaf saved leaf.node) entry_of (leaf_list d.views)
      ∙ shown_record saved safe
