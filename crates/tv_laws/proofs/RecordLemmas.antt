-- The record that a dialog saves where no text lies outside its domain.
use Rattle.std.proofs.Common.{◌≡◌, Bool, true, false, cond, not, ℕ, List, [], ◌∷◌, map, filter, filter_map, find, Option, Some, None, option_map, is_some, refl, sym, ap, subst, ◌∙◌, All}
use Rattle.std.specs.List.{cons_option}
use Rattle.std.proofs.lemmas.Bool.{true≢false}
use Rattle.std.proofs.lemmas.List.Elements.{All-nil, All-cons, All-head, All-tail}
use Rattle.tv_valid.specs.Asking.{domain_of}
use Rattle.tv_valid.specs.Deciding.{in_domain}
use Rattle.tv_valid.specs.Domain.{InDomain, IsViableText}
use Rattle.tv_valid.proofs.AskingLemmas.{domain_law}
use Rattle.tv_valid.proofs.DecidingLemmas.{in_domain_law}
use Rattle.tv_model.specs.declared.node.Id.{Id}
use Rattle.tv_model.specs.declared.kind.Input.{Input}
use Rattle.tv_model.specs.declared.kind.Kind.{Kind}
use Rattle.tv_model.specs.declared.kind.Kind.TheVariants as kinds
use Rattle.tv_model.specs.declared.desc.Dialog.{Dialog}
use Rattle.tv_model.specs.declared.record.Value.{Value}
use Rattle.tv_model.specs.declared.record.Value.TheVariants as values
use Rattle.tv_model.specs.Description.Nodes.{node_of}
use Rattle.tv_model.specs.Log.Record.{Entries}
use Rattle.tv_model.specs.Controls.Private.{Private}
use Rattle.tv_machine.specs.Leaves.{PlacedNode, leaf_list}
use Rattle.tv_model.specs.Controls.Contents.{Content}
use Rattle.tv_machine.specs.Dialog.Ending.{fields_of, first_invalid, is_invalid_leaf}
use Rattle.tv_machine.specs.Dialog.Focus.{is_invalid}
use Rattle.tv_model.specs.Kinds.InputLine.{is_outside_domain}
use Rattle.tv_machine.specs.Dialog.Modal.{Modal, content_at}
use Rattle.tv_machine.specs.Safe.{HasValueOf, IsSafeEntry, IsSafeRecord, IsTextOf, IsValueOf, is_field}
use Rattle.tv_laws.specs.Fit.{IsStanding}
use Rattle.tv_laws.specs.Sound.{IsSoundDialog}
use Rattle.tv_machine.proofs.LeafLemmas.{HasLeaves, IsIn, ids-apart, leaf_at-node, leaf_id, leaves-are, state_id, views-apart}
use Rattle.tv_machine.proofs.ListLemmas.{AreApart, find-member, has, none-fails, option_cases}
use Rattle.tv_machine.proofs.EntryLemmas.{entries_are, entry_at, entry_with}

-- ---- a value

-- what has a value is a field, and nothing else
pub value-field : (k : Kind) (v : Option Value) → HasValueOf k v → is_field k ≡ is_some v
value-field k None h = h
value-field (kinds.Input input) (Some (values.Text text)) h = refl
value-field k (Some (values.Text text)) h = absurd h
value-field (kinds.CheckBoxes boxes) (Some (values.Marks marks)) h = refl
value-field k (Some (values.Marks marks)) h = absurd h
value-field (kinds.RadioButtons radios) (Some (values.Item item)) h = refl
value-field (kinds.List list) (Some (values.Item item)) h = refl
value-field k (Some (values.Item item)) h = absurd h

-- a text that isn't outside its domain lies in it
text_inside : (input : Input) (text : List ℕ) → IsTextOf IsViableText (kinds.Input input) text
    → is_outside_domain (domain_of input.spec) text ≡ false → IsTextOf InDomain (kinds.Input input) text
text_inside input text h e =
    (h.0, h.1, (in_domain_law h.0 text).0 (not_not (in_domain h.0 text) (ap (λ o. is_outside_domain o text) (sym ((domain_law input.spec h.0).1 h.1)) ∙ e)))
  where
    not_not : (b : Bool) → not b ≡ false → b ≡ true
    not_not true f = refl
    not_not false f = absurd (true≢false f)

abbrev holds_value : Option Value → Private → Bool → Content
holds_value value private overwrites = record { value = value; private = private; overwrites = overwrites }

value-inside : (k : Kind) (v : Value) (private : Private) (overwrites : Bool) → HasValueOf k (Some v)
    → is_invalid k (holds_value (Some v) private overwrites) ≡ false → IsValueOf InDomain k v
value-inside (kinds.Input input) (values.Text text) private overwrites h e = text_inside input text h e
value-inside k (values.Text text) private overwrites h e = absurd h
value-inside k (values.Marks marks) private overwrites h e = h
value-inside k (values.Item item) private overwrites h e = h

-- ---- the entries

-- ---- the record

module _ (d : Dialog) (sound : IsSoundDialog d) (m : Modal) where
  -- a leaf that has an entry which may be saved, if it is a field
  record IsRecorded (leaf : PlacedNode) : Type 0 where
    there : IsIn d leaf
    value : HasValueOf leaf.node.kind (content_at m leaf.node.id).value
    inside : is_invalid leaf.node.kind (content_at m leaf.node.id) ≡ false

  one_id : (leaf : PlacedNode) (v : Option Value) (entries : Entries) (ids : List Id) → is_field leaf.node.kind ≡ is_some v
      → map (λ entry. entry.id) entries ≡ ids
      → map (λ entry. entry.id) (cons_option (option_map (entry_with leaf.node.id) v) entries) ≡ cond (is_field leaf.node.kind) (leaf.node.id ∷ ids) ids
  one_id leaf None entries ids is same = same ∙ ap (λ b. cond b (leaf.node.id ∷ ids) ids) (sym is)
  one_id leaf (Some v) entries ids is same = ap (λ ys. leaf.node.id ∷ ys) same ∙ ap (λ b. cond b (leaf.node.id ∷ ids) ids) (sym is)

  ids_filtered : (leaf : PlacedNode) (b : Bool) (xs : List PlacedNode)
      → cond b (leaf.node.id ∷ map leaf_id xs) (map leaf_id xs) ≡ map leaf_id (cond b (leaf ∷ xs) xs)
  ids_filtered leaf true xs = refl
  ids_filtered leaf false xs = refl

  field_of : (leaf : PlacedNode) → Bool
  field_of leaf = is_field leaf.node.kind

  recorded_ids : (xs : List PlacedNode) → All IsRecorded xs
      → map (λ entry. entry.id) (filter_map (entry_at m) xs) ≡ map leaf_id (filter (λ leaf. is_field leaf.node.kind) xs)
  recorded_ids [] all = refl
  recorded_ids (x ∷ xs) all =
      one_id x (content_at m x.node.id).value (filter_map (entry_at m) xs) (map leaf_id (filter (λ leaf. is_field leaf.node.kind) xs))
      (value-field x.node.kind (content_at m x.node.id).value (All-head IsRecorded x xs all).value) (recorded_ids xs (All-tail IsRecorded x xs all))
      ∙ ids_filtered x (is_field x.node.kind) (filter (λ leaf. is_field leaf.node.kind) xs)

  node_there : (leaf : PlacedNode) → IsIn d leaf → node_of d.views leaf.node.id ≡ Some leaf.node
  node_there leaf e =
      leaf_at-node (λ view. find (has (λ other. other.id) view.id) d.views ≡ Some view) d leaf.node.id leaf (find-member (λ view. view.id) d.views (views-apart d sound.lawful)) e

  one_entry : (leaf : PlacedNode) (c : Content) (v : Option Value) (entries : Entries) → c.value ≡ v → IsIn d leaf
      → HasValueOf leaf.node.kind c.value → is_invalid leaf.node.kind c ≡ false
      → All (IsSafeEntry d) entries → All (IsSafeEntry d) (cons_option (option_map (entry_with leaf.node.id) v) entries)
  one_entry leaf c None entries is there value inside all = all
  one_entry leaf c (Some v) entries is there value inside all =
      All-cons (IsSafeEntry d) (entry_with leaf.node.id v) entries
      (record {
        node = leaf.node;
        there = node_there leaf there;
        value = value-inside leaf.node.kind v c.private c.overwrites (subst (HasValueOf leaf.node.kind) is value)
            (ap (λ x. is_invalid leaf.node.kind (holds_value x c.private c.overwrites)) (sym is) ∙ inside);
      }) all

  recorded_values : (xs : List PlacedNode) → All IsRecorded xs → All (IsSafeEntry d) (filter_map (entry_at m) xs)
  recorded_values [] all = All-nil (IsSafeEntry d)
  recorded_values (x ∷ xs) all =
      let r = All-head IsRecorded x xs all in
      one_entry x (content_at m x.node.id) (content_at m x.node.id).value (filter_map (entry_at m) xs) refl r.there r.value r.inside (recorded_values xs (All-tail IsRecorded x xs all))

  all_inside : first_invalid d m ≡ None → All (λ leaf. is_invalid_leaf m leaf ≡ false) (leaf_list d.views)
  all_inside e =
      option_cases (find (is_invalid_leaf m) (leaf_list d.views)) (λ o. option_map leaf_id o ≡ None → All (λ leaf. is_invalid_leaf m leaf ≡ false) (leaf_list d.views))
      (λ none f. none-fails (is_invalid_leaf m) (leaf_list d.views) none) (λ leaf found f. absurd cc) e

  pub fields-are : HasLeaves d m → filter_map (entry_at m) (leaf_list d.views) ≡ fields_of m.leaves
  fields-are leaves = entries_are m (leaf_list d.views) m.leaves leaves (find-member state_id m.leaves (subst AreApart (sym leaves) (ids-apart d sound.lawful)))

  -- the record of a dialog is safe where no input refuses the end
  pub record-safe : IsStanding d m → first_invalid d m ≡ None → IsSafeRecord d (fields_of m.leaves)
  record-safe s e =
      let inside = all_inside e in
      let all : All IsRecorded (leaf_list d.views) = λ k f h.
      let fits = s.contents k f h in
      record { there = member k f h; value = fits.safe.value; inside = inside k f h } in
      subst (IsSafeRecord d) (fields-are s.leaves) (record { fields = recorded_ids (leaf_list d.views) all; values = recorded_values (leaf_list d.views) all })
    where
      member : All (IsIn d) (leaf_list d.views)
      member = leaves-are d sound.lawful (IsIn d) (λ leaf f. f)
