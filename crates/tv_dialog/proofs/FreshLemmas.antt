-- A dialog that opens for the first time: its leaves stand as their nodes declare them, and no rules were applied yet.
use Rattle.std.proofs.Common.{◌≡◌, Bool, true, false, ◌==◌, if◌then◌else◌, List, [], map, get_or, Option, Some, None, refl, sym, ap, subst, ◌∙◌, All}
use Rattle.std.proofs.lemmas.List.Elements.{All-map}
use Rattle.tv_model.specs.declared.node.Id.{Id}
use Rattle.tv_model.specs.declared.node.Node.{Node}
use Rattle.tv_model.specs.declared.kind.Kind.{Kind}
use Rattle.tv_model.specs.declared.kind.Kind.TheVariants as kinds
use Rattle.tv_model.specs.declared.record.Value.{Value}
use Rattle.tv_model.specs.declared.desc.Dialog.{Dialog}
use Rattle.tv_view.specs.Meaning.{Placed, fresh}
use Rattle.tv_model.specs.Log.Record.{Entries, value_of}
use Rattle.tv_machine.specs.Controls.Declared.{declared_leaf, declared_value, opened_private}
use Rattle.tv_machine.specs.State.{LeafState}
use Rattle.tv_model.specs.Controls.Private.{Private}
use Rattle.tv_machine.specs.Leaves.{PlacedNode, leaf_list}
use Rattle.tv_machine.specs.Dialog.Opening.{unfocused}
use Rattle.tv_machine.specs.Dialog.Rules.{is_among}
use Rattle.tv_view.specs.declared.env.Rules.{Rules}
use Rattle.tv_view.specs.Calls as calls
use Rattle.tv_group.specs.Calls.{FitsAll, all_applied, all_set, in_place, in_place_unmarked}
use Rattle.tv_machine.specs.Dialog.Lawful.{IsLawfulDialog}
use Rattle.tv_dialog.specs.Resting.{AreAlike, unflagged}
use Rattle.tv_group.specs.Tree.{IsSteady, IsSteadyContent, IsSteadyLeaf, around_of, placed_as, tree_as}
use Rattle.tv_machine.proofs.ListLemmas.{All-unmap, map-map, map-same}
use Rattle.tv_group.proofs.Tree.OpeningLemmas.{content_at-unfocused, leaves-unfocused, open_content}
use Rattle.tv_group.proofs.Tree.StandingLemmas.{standing}
use Rattle.tv_machine.proofs.LeafLemmas.{IsIn, leaf_at-all, leaves-are, leaves-same, own-fails}

-- ---- leaves that are alike but for their flags

-- rules set the flags anew
pub applied-alike : (rules : Rules) (xs ys : List Placed) → AreAlike xs ys → all_applied rules xs ≡ all_applied rules ys
unfolding all_applied calls.applied
applied-alike rules xs ys alike =
    sym (map-map unflagged (in_place (calls.applied rules)) xs) ∙ ap (map (in_place (calls.applied rules))) alike
    ∙ map-map unflagged (in_place (calls.applied rules)) ys

-- a leaf whose value is set, by whether it has one and what is recorded
abbrev pub set_place : Bool → Option Value → Placed → Placed
set_place field found x = record x {
  leaf = record (if field then calls.leaf_opened_with found x.leaf else x.leaf) { is_focused = false; held = None };
  is_current = false;
}

set_still : (field : Bool) (found : Option Value) (x : Placed) → unflagged (set_place field found x) ≡ set_place field found (unflagged x)
set_still true None x = refl
set_still true (Some value) x = refl
set_still false found x = refl

set_unflagged : (entries : Entries) (xs : List Placed) → map unflagged (all_set entries xs) ≡ all_set entries (map unflagged xs)
unfolding all_set calls.set_from
set_unflagged entries xs =
    map-map (in_place_unmarked (calls.set_from entries)) unflagged xs
    ∙ map-same (λ x. unflagged (in_place_unmarked (calls.set_from entries) x))
    (λ x. in_place_unmarked (calls.set_from entries) (unflagged x)) xs
    (λ k e h. let x = get_or xs k e in set_still (calls.has_field_value x.leaf.value) (value_of entries x.leaf.node.id.0) x)
    ∙ sym (map-map unflagged (in_place_unmarked (calls.set_from entries)) xs)

-- values that are set leave them alike
pub set-alike : (entries : Entries) (xs ys : List Placed) → AreAlike xs ys → AreAlike (all_set entries xs) (all_set entries ys)
set-alike entries xs ys alike = set_unflagged entries xs ∙ ap (all_set entries) alike ∙ sym (set_unflagged entries ys)

-- a record fits them alike
pub fits-alike : (entries : Entries) (xs ys : List Placed) → AreAlike xs ys → FitsAll entries xs → FitsAll entries ys
unfolding calls.Fits
fits-alike entries xs ys alike fits =
    All-unmap (λ x. calls.Fits entries x.leaf) unflagged ys
    (subst (All (λ x. calls.Fits entries x.leaf)) alike (All-map (λ x. calls.Fits entries x.leaf) unflagged xs fits))

-- ---- a fresh body

-- a leaf in its place as its node declares it
abbrev pub fresh_leaf : Dialog → PlacedNode → Placed
fresh_leaf d leaf = record { leaf = fresh leaf.node; around = around_of d leaf; is_current = false }

abbrev pub fresh_tree : Dialog → List Placed
fresh_tree d = map (fresh_leaf d) (leaf_list d.views)

declared_is : (node : Node) (k : Kind) → (declared_leaf (record node { kind = k })).value ≡ declared_value k
declared_is node (kinds.Window head) = refl
declared_is node _ = refl

private_is : (node : Node) (k : Kind) → (declared_leaf (record node { kind = k })).private ≡ opened_private k (declared_value k)
private_is node (kinds.Window head) = refl
private_is node _ = refl

declared_steady : (is_focused : Bool) (k : Kind) (overwrites : Bool) → IsSteadyContent is_focused k (open_content k None overwrites)
declared_steady is_focused (kinds.Input input) overwrites =
    record { text = input.start; cursor = 0; is_whole = false; value = refl; private = refl; rested = λ e. refl }
declared_steady is_focused (kinds.CheckBoxes boxes) overwrites = refl
declared_steady is_focused (kinds.RadioButtons radios) overwrites = refl
declared_steady is_focused (kinds.List list) overwrites = refl
declared_steady is_focused _ overwrites = record { value = refl; private = refl }

module _ (d : Dialog) (lawful : IsLawfulDialog d) where
  -- the dialog with its declared values
  pub steady-declared : (overwriting : List Id) → IsSteady d (unfocused d None overwriting)
  steady-declared overwriting = record {
    leaves = leaves-unfocused d None overwriting;
    contents = leaves-are d lawful (IsSteadyLeaf (unfocused d None overwriting))
        (λ leaf e. subst (IsSteadyContent (leaf.node.id.0 == d.node.id.0) leaf.node.kind)
        (sym (content_at-unfocused d None overwriting leaf e))
        (declared_steady (leaf.node.id.0 == d.node.id.0) leaf.node.kind (is_among overwriting leaf.node.id)));
  }

  bare : PlacedNode → Option Value → Private → Bool → Placed
  bare leaf value private is_focused = record {
    leaf = record {
      node = leaf.node;
      value = value;
      private = private;
      overwrites = false;
      is_focused = is_focused;
      held = None;
      is_shown = true;
      is_enabled = true;
    };
    around = around_of d leaf;
    is_current = is_focused;
  }

  fresh_stands : (ruled : List LeafState) (leaf : PlacedNode) → IsIn d leaf
      → unflagged (fresh_leaf d leaf) ≡ unflagged (placed_as d ruled (unfocused d None []) leaf)
  unfolding bare
  fresh_stands ruled leaf e =
      let kind = leaf.node.kind in
      let own = leaf_at-all (λ other. (other.node.id.0 == d.node.id.0) ≡ false) d leaf.node.id leaf (own-fails d lawful) e in
      ap (λ v. bare leaf v (declared_leaf leaf.node).private false) (declared_is leaf.node kind)
      ∙ ap (λ p. bare leaf (declared_value kind) p false) (private_is leaf.node kind)
      ∙ ap (λ b. bare leaf (declared_value kind) (opened_private kind (declared_value kind)) b) (sym own)
      ∙ ap (λ c. unflagged (standing d ruled leaf c (leaf.node.id.0 == d.node.id.0) None)) (sym (content_at-unfocused d None [] leaf e))

  -- a fresh body stands so, but for its flags
  pub fresh-alike : (ruled : List LeafState) → AreAlike (fresh_tree d) (tree_as d ruled (unfocused d None []))
  fresh-alike ruled =
      map-map (fresh_leaf d) unflagged (leaf_list d.views)
      ∙ leaves-same d lawful (λ leaf. unflagged (fresh_leaf d leaf)) (λ leaf. unflagged (placed_as d ruled (unfocused d None []) leaf))
      (fresh_stands ruled)
      ∙ sym (map-map (placed_as d ruled (unfocused d None [])) unflagged (leaf_list d.views))
