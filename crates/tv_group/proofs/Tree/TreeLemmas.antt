-- The leaves of a dialog's tree: how they are found, and what becomes of them where one holds something else.
use Rattle.std.proofs.Common.{◌≡◌, Bool, true, false, ◌==◌, if◌then◌else◌, List, map, find, Some, option_map, refl, sym, ap, subst, ◌∙◌}
use Rattle.tv_model.specs.declared.node.Id.{Id}
use Rattle.tv_model.specs.declared.desc.Dialog.{Dialog}
use Rattle.tv_view.specs.Meaning.{Placed}
use Rattle.tv_machine.specs.State.{LeafState}
use Rattle.tv_machine.specs.Leaves.{PlacedNode, leaf_list}
use Rattle.tv_model.specs.Controls.Contents.{Content}
use Rattle.tv_machine.specs.Dialog.Rules.{is_enabled, is_visible}
use Rattle.tv_machine.specs.Dialog.Modal.{Modal, content_at, leaf_at, content_put}
use Rattle.tv_machine.specs.Dialog.Lawful.{IsLawfulDialog}
use Rattle.tv_machine.proofs.ListLemmas.{AreApart, bool_cases, changed_at, find-map, map-map, same-id}
use Rattle.tv_machine.proofs.LeafLemmas.{HasLeaves, IsIn, content_at-changed, ids-apart, leaf_at-all, leaf_at-same, leaves-are, leaves-changed, leaves-same}
use Rattle.tv_view.specs.Fields as fields
use Rattle.tv_group.specs.Handling.{first_changed}
use Rattle.tv_group.specs.Tree.{IsSteady, IsSteadyContent, IsSteadyLeaf, around_of, held_at, placed_as, tree_as}
use Rattle.tv_group.proofs.Tree.FoundLemmas.{first_changed-found}

module _ (d : Dialog) (lawful : IsLawfulDialog d) where
  -- ---- trees

  -- the leaf in its place, where it holds this
  abbrev placed_holding : List LeafState → Modal → PlacedNode → Content → Placed
  placed_holding ruled m leaf c = record {
    leaf = record {
      node = leaf.node;
      value = c.value;
      private = c.private;
      overwrites = c.overwrites;
      is_focused = leaf.node.id.0 == m.focus.0;
      held = held_at m.held leaf.node.id;
      is_shown = is_visible d ruled leaf;
      is_enabled = is_enabled d ruled leaf.node;
    };
    around = around_of d leaf;
    is_current = leaf.node.id.0 == m.focus.0;
  }

  -- in its place the leaf holds this
  abbrev pub placed_with : Content → Placed → Placed
  placed_with c x = record x { leaf = fields.with_content c x.leaf }

  -- the leaf of the id changes
  abbrev pub where_id : Id → (Placed → Placed) → Placed → Placed
  where_id i change x = changed_at (λ y. y.leaf.node.id) i change x

  holding-so : (ruled : List LeafState) (m : Modal) (leaf : PlacedNode) (c : Content) (b : Bool)
      → placed_holding ruled m leaf (if b then c else content_at m leaf.node.id)
      ≡ (if b then placed_with c (placed_as d ruled m leaf) else placed_as d ruled m leaf)
  holding-so ruled m leaf c true = refl
  holding-so ruled m leaf c false = refl

  -- the leaf of the id holds this, and nothing else changes
  pub changed-tree : (ruled : List LeafState) (m : Modal) (i : Id) (c : Content) → HasLeaves d m
      → tree_as d ruled (content_put d i c m) ≡ map (where_id i (placed_with c)) (tree_as d ruled m)
  changed-tree ruled m i c leaves =
      leaves-same d lawful (placed_as d ruled (content_put d i c m)) (λ leaf. where_id i (placed_with c) (placed_as d ruled m leaf))
      (λ leaf e. ap (placed_holding ruled m leaf) (content_at-changed d lawful m leaves i c leaf e)
      ∙ holding-so ruled m leaf c (leaf.node.id.0 == i.0))
      ∙ sym (map-map (placed_as d ruled m) (where_id i (placed_with c)) (leaf_list d.views))

  pub find-tree : (p : Placed → Bool) (ruled : List LeafState) (m : Modal)
      → find p (tree_as d ruled m) ≡ option_map (placed_as d ruled m) (find (λ leaf. p (placed_as d ruled m leaf)) (leaf_list d.views))
  find-tree p ruled m = find-map (placed_as d ruled m) p (leaf_list d.views)

  pub tree-apart : (ruled : List LeafState) (m : Modal) → AreApart (map (λ x. x.leaf.node.id) (tree_as d ruled m))
  tree-apart ruled m = subst AreApart (sym (map-map (placed_as d ruled m) (λ x. x.leaf.node.id) (leaf_list d.views))) (ids-apart d lawful)

  -- the first that is so changes, which is the leaf that was found
  pub first_changed-tree : (is_so : Placed → Bool) (change : Placed → Placed) (ruled : List LeafState) (m : Modal) (leaf : PlacedNode)
      → find (λ other. is_so (placed_as d ruled m other)) (leaf_list d.views) ≡ Some leaf
      → first_changed is_so change (tree_as d ruled m) ≡ map (where_id leaf.node.id change) (tree_as d ruled m)
  first_changed-tree is_so change ruled m leaf e =
      first_changed-found (λ x. x.leaf.node.id) is_so change (tree_as d ruled m) (placed_as d ruled m leaf) (tree-apart ruled m)
      (find-tree is_so ruled m ∙ ap (option_map (placed_as d ruled m)) e)

  -- ---- steady dialogs

  pub steady-leaf : (m : Modal) → IsSteady d m → (leaf : PlacedNode) → IsIn d leaf → IsSteadyLeaf m leaf
  steady-leaf m steady leaf e = leaf_at-all (IsSteadyLeaf m) d leaf.node.id leaf steady.contents e

  -- a dialog stays steady where the leaf of the id holds what its kind does
  pub steady-changed : (m : Modal) (i : Id) (c : Content) → IsSteady d m
      → ((leaf : PlacedNode) → leaf_at d i ≡ Some leaf → IsSteadyContent (leaf.node.id.0 == m.focus.0) leaf.node.kind c)
      → IsSteady d (content_put d i c m)
  steady-changed m i c steady fits = record {
    leaves = leaves-changed d lawful m steady.leaves i c;
    contents = leaves-are d lawful (IsSteadyLeaf (content_put d i c m))
        (λ leaf e. subst (IsSteadyContent (leaf.node.id.0 == m.focus.0) leaf.node.kind)
        (sym (content_at-changed d lawful m steady.leaves i c leaf e))
        (bool_cases (leaf.node.id.0 == i.0)
        (λ b. IsSteadyContent (leaf.node.id.0 == m.focus.0) leaf.node.kind (if b then c else content_at m leaf.node.id))
        (λ here. fits leaf (leaf_at-same d i leaf e (same-id leaf.node.id i here))) (λ there. steady-leaf m steady leaf e)));
  }
