-- The entries of records, and those of the leaves of an open dialog.
use Rattle.std.proofs.Common.{◌≡◌, ◌==◌, ℕ, Bool, false, if◌then◌else◌, List, [], ◌∷◌, ◌++◌, map, filter_map, Option, Some, None, option_map, refl, sym, ap, ◌∙◌, All}
use Rattle.std.specs.List.{cons_option}
use Rattle.std.proofs.lemmas.List.Elements.{All-head, All-tail}
use Rattle.tv_model.specs.declared.node.Id.{Id}
use Rattle.tv_model.specs.declared.record.Entry.{Entry}
use Rattle.tv_model.specs.declared.record.Value.{Value}
use Rattle.tv_model.specs.Log.Record.{Entries, value_of, with_value}
use Rattle.tv_machine.specs.State.{LeafState}
use Rattle.tv_machine.specs.Leaves.{PlacedNode}
use Rattle.tv_machine.specs.Dialog.Ending.{entry_of}
use Rattle.tv_machine.specs.Dialog.Modal.{Modal, content_at}
use Rattle.tv_machine.specs.Dialog.Rules.{content_by, is_among, state_of}
use Rattle.tv_machine.proofs.LeafLemmas.{leaf_id, state_id}
use Rattle.tv_machine.proofs.ListLemmas.{bool_cases}
use Rattle.tv_machine.proofs.MarkLemmas.{value_by}

abbrev pub entry_with : Id → Value → Entry
entry_with i value = record { id = i; value = value }

-- ---- a field that has no value yet

pub one_more : (entries : Entries) (i : Id) (value : Value) → value_of entries i.0 ≡ None
    → with_value entries i value ≡ entries ++ entry_with i value ∷ []
one_more [] i value e = refl
one_more (x ∷ entries) i value e =
    bool_cases (x.id.0 == i.0)
    (λ b. (if b then Some x.value else value_of entries i.0) ≡ None
    → (if b then entry_with x.id value ∷ entries else x ∷ with_value entries i value) ≡ x ∷ (entries ++ entry_with i value ∷ []))
    (λ is f. absurd cc) (λ is f. ap (λ ys. x ∷ ys) (one_more entries i value f)) e

pub none_behind : (entries : Entries) (x : Entry) (field : ℕ) → value_of entries field ≡ None → (x.id.0 == field) ≡ false
    → value_of (entries ++ x ∷ []) field ≡ None
none_behind [] x field e other = ap (λ b. if b then Some x.value else None) other
none_behind (y ∷ entries) x field e other =
    bool_cases (y.id.0 == field)
    (λ b. (if b then Some y.value else value_of entries field) ≡ None
    → (if b then Some y.value else value_of (entries ++ x ∷ []) field) ≡ None)
    (λ is f. f) (λ is f. none_behind entries x field f other) e

-- ---- leaves

-- the entry of a leaf, if it is a field
abbrev pub entry_at : Modal → PlacedNode → Option Entry
entry_at m leaf = option_map (entry_with leaf.node.id) (content_at m leaf.node.id).value

-- the entries of leaves are those of what they hold
pub entries_are : (m : Modal) (xs : List PlacedNode) (states : List LeafState) → map state_id states ≡ map leaf_id xs
    → All (λ s. state_of m.leaves s.id ≡ Some s) states
    → filter_map (entry_at m) xs ≡ filter_map entry_of states
entries_are m [] [] same found = refl
entries_are m [] (s ∷ states) same found = absurd cc
entries_are m (x ∷ xs) [] same found = absurd cc
entries_are m (x ∷ xs) (s ∷ states) same found =
    let head : s.id ≡ x.node.id = cc in
    let tail : map state_id states ≡ map leaf_id xs = cc in
    let here : state_of m.leaves x.node.id ≡ Some s =
    ap (state_of m.leaves) (sym head) ∙ All-head (λ other. state_of m.leaves other.id ≡ Some other) s states found in
    let value : (content_at m x.node.id).value ≡ s.value =
    value_by (is_among m.overwriting x.node.id) (state_of m.leaves x.node.id) ∙ ap (λ o. (content_by false o).value) here in
    ap (λ v. cons_option (option_map (entry_with x.node.id) v) (filter_map (entry_at m) xs)) value
    ∙ ap (λ i. cons_option (option_map (entry_with i) s.value) (filter_map (entry_at m) xs)) (sym head)
    ∙ ap (cons_option (entry_of s))
    (entries_are m xs states tail (All-tail (λ other. state_of m.leaves other.id ≡ Some other) s states found))
