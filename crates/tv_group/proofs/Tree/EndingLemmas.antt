-- What a dialog's tree answers where the dialog ends, and what commands leave of the dialog.
use Rattle.std.proofs.Common.{◌≡◌, Bool, true, false, cond, ◌||◌, ◌+◌, ◌≤◌, ℕ, suc, nat_lt, if◌then◌else◌, List, [], ◌∷◌, ◌++◌, map, find, filter_map, length, get_or, Option, Some, None, option_map, is_some, refl, sym, ap, subst, ◌∙◌, All, arith, append_assoc, append-nil, length-append, lt-ltb}
use Rattle.std.specs.List.{cons_option}
use Rattle.std.specs.Option.{option_or}
use Rattle.std.proofs.lemmas.Bool.{or_right}
use Rattle.std.proofs.lemmas.List.Elements.{All-head, All-tail}
use Rattle.tv_model.specs.declared.node.Node.{Node}
use Rattle.tv_model.specs.declared.record.Value.{Value}
use Rattle.tv_model.specs.declared.desc.Dialog.{Dialog}
use Rattle.tv_model.specs.Description.Nodes.{is_pane}
use Rattle.tv_model.specs.Log.Record.{Entries, value_of}
use Rattle.tv_machine.specs.State.{LeafState}
use Rattle.tv_machine.specs.Leaves.{PlacedNode, leaf_list, leaves_in, open_after, open_at}
use Rattle.tv_machine.specs.Dialog.Ending.{ended, fields_of, first_invalid, is_invalid_leaf}
use Rattle.tv_machine.specs.Dialog.Rules.{is_among}
use Rattle.tv_machine.specs.Dialog.Modal.{Modal, content_at}
use Rattle.tv_view.specs.Calls.{gathered, invalid_id, with_field}
use Rattle.tv_group.specs.Calls.{first_invalid_in, first_some, gathered_within}
use Rattle.tv_machine.specs.Dialog.Lawful.{IsLawfulDialog}
use Rattle.tv_group.specs.Tree.{IsSteady, leaf_as, placed_as, tree_as}
use Rattle.tv_machine.proofs.ListLemmas.{AreApart, bool_cases, find-member, id-swap, others-fail}
use Rattle.tv_group.proofs.Tree.FoundLemmas.{first_some-map}
use Rattle.tv_machine.proofs.LeafLemmas.{HasLeaves, ids-apart, leaf_id, state_id}
use Rattle.tv_machine.proofs.EntryLemmas.{entries_are, entry_at, entry_with, none_behind, one_more}

-- ---- a text outside its domain

module _ {A B : Type 0} (p : A → Bool) (f : A → B) where
  some_at : (b : Bool) (x : A) (rest : Option A)
      → option_or (if b then Some (f x) else None) (option_map f rest) ≡ option_map f (cond b (Some x) rest)
  some_at true x rest = refl
  some_at false x rest = refl

  some-find : (xs : List A) → first_some (λ x. if p x then Some (f x) else None) xs ≡ option_map f (find p xs)
  some-find [] = refl
  some-find (x ∷ xs) = ap (option_or (if p x then Some (f x) else None)) (some-find xs) ∙ some_at (p x) x (find p xs)

pub first_invalid-tree : (d : Dialog) (ruled : List LeafState) (m : Modal) → first_invalid_in (tree_as d ruled m) ≡ first_invalid d m
unfolding first_invalid_in invalid_id
first_invalid-tree d ruled m =
    first_some-map (placed_as d ruled m) (λ x. invalid_id x.leaf) (leaf_list d.views)
    ∙ some-find (is_invalid_leaf m) leaf_id (leaf_list d.views)

-- ---- the record

module _ (d : Dialog) (ruled : List LeafState) (m : Modal) where
  abbrev IsOpen : Entries → PlacedNode → Type 0
  IsOpen entries leaf = value_of entries leaf.node.id.0 ≡ None

  abbrev Gathers : List PlacedNode → Entries → Type 0
  Gathers xs entries = gathered_within (map (placed_as d ruled m) xs) entries ≡ entries ++ filter_map (entry_at m) xs

  gathers_one : (x : PlacedNode) (xs : List PlacedNode) (entries : Entries) → is_among (map leaf_id xs) x.node.id ≡ false
      → IsOpen entries x → All (IsOpen entries) xs
      → length entries + suc (length xs) ≤ 64 → ((more : Entries) → All (IsOpen more) xs → length more + length xs ≤ 64 → Gathers xs more)
      → (value : Option Value)
      → gathered_within (map (placed_as d ruled m) xs) (with_field value x.node.id entries)
      ≡ entries ++ cons_option (option_map (entry_with x.node.id) value) (filter_map (entry_at m) xs)
  gathers_one x xs entries apart here behind room ih None = ih entries behind (omega arith)
  gathers_one x xs entries apart here behind room ih (Some value) =
      let e = entry_with x.node.id value in
      let long = length-append entries (e ∷ []) in
      ap (gathered_within (map (placed_as d ruled m) xs)) (one_more entries x.node.id value here)
      ∙ ih (entries ++ e ∷ [])
      (λ k f h. none_behind entries e (get_or xs k f).node.id.0 (behind k f h)
      (id-swap x.node.id (get_or xs k f).node.id ∙ others-fail leaf_id xs x.node.id apart k f h))
      (omega (arith, long))
      ∙ append_assoc entries (e ∷ []) (filter_map (entry_at m) xs)

  gathers : (xs : List PlacedNode) (entries : Entries) → AreApart (map leaf_id xs) → All (IsOpen entries) xs
      → length entries + length xs ≤ 64 → Gathers xs entries
  unfolding gathered
  gathers [] entries apart unused room = sym (append-nil entries)
  gathers (x ∷ xs) entries apart unused room =
      let rest = map (placed_as d ruled m) xs in
      let space : nat_lt (length entries) 64 ≡ true = lt-ltb (length entries) 64 (omega arith) in
      let here = All-head (IsOpen entries) x xs unused in
      let behind = All-tail (IsOpen entries) x xs unused in
      ap (λ b. gathered_within rest
      (if is_some (value_of entries x.node.id.0) || b then gathered (leaf_as d ruled m x) entries else entries)) space
      ∙ ap (λ b. gathered_within rest (if b then gathered (leaf_as d ruled m x) entries else entries))
      (or_right (is_some (value_of entries x.node.id.0)) true refl)
      ∙ gathers_one x xs entries apart.0 here behind room (λ more fits less. gathers xs more apart.1 fits less)
      (content_at m x.node.id).value

pub fewer_leaves : (panes views : List Node) → length (leaves_in panes views) ≤ length views
fewer_leaves panes [] = omega arith
fewer_leaves panes (view ∷ views) =
    let rest = leaves_in (open_after panes view) views in
    let less = fewer_leaves (open_after panes view) views in
    bool_cases (is_pane view.kind)
    (λ b. length (if b then rest else record { node = view; panes = open_at view.depth panes } ∷ rest) ≤ suc (length views))
    (λ is. omega (arith, less)) (λ is. omega (arith, less))

module _ (d : Dialog) (lawful : IsLawfulDialog d) where
  pub states-apart : (m : Modal) → HasLeaves d m → AreApart (map state_id m.leaves)
  states-apart m leaves = subst AreApart (sym leaves) (ids-apart d lawful)

  pub gathered-tree : (ruled : List LeafState) (m : Modal) → HasLeaves d m → gathered_within (tree_as d ruled m) [] ≡ fields_of m.leaves
  gathered-tree ruled m leaves =
      let few = fewer_leaves [] d.views in
      let count = lawful.count in
      gathers d ruled m (leaf_list d.views) [] (ids-apart d lawful) (λ k e h. refl) (omega (arith, few, count))
      ∙ entries_are m (leaf_list d.views) m.leaves leaves (find-member state_id m.leaves (states-apart m leaves))

  -- ---- commands leave the dialog steady

  pub steady-ended : (number : ℕ) (m : Modal) → IsSteady d m → IsSteady d (ended d number m)
  steady-ended number m steady = record { leaves = steady.leaves; contents = steady.contents }
