-- A tree where every rule holds as with other leaves.
use Rattle.std.proofs.Common.{◌≡◌, Bool, ◌==◌, List, get_or, ap, ◌∙◌}
use Rattle.tv_model.specs.declared.desc.Dialog.{Dialog}
use Rattle.tv_view.specs.Meaning.{Placed}
use Rattle.tv_machine.specs.State.{LeafState}
use Rattle.tv_machine.specs.Leaves.{PlacedNode, leaf_list}
use Rattle.tv_machine.specs.Dialog.Alike.{HoldSame}
use Rattle.tv_machine.specs.Dialog.Rules.{is_enabled, is_visible}
use Rattle.tv_machine.specs.Dialog.Modal.{Modal}
use Rattle.tv_machine.proofs.ListLemmas.{map-same}
use Rattle.tv_machine.proofs.MarkLemmas.{enabled-same, visible-same}
use Rattle.tv_group.specs.Tree.{around_of, leaf_as, placed_as, tree_as}

-- a leaf in its place with flags
abbrev pub flagged : Dialog → List LeafState → Modal → PlacedNode → Bool → Bool → Placed
flagged d leaves m leaf shown enabled = record {
  leaf = record (leaf_as d leaves m leaf) { is_shown = shown; is_enabled = enabled };
  around = around_of d leaf;
  is_current = leaf.node.id.0 == m.focus.0;
}

module _ (d : Dialog) (leaves other : List LeafState) (same : HoldSame d leaves other) where
  -- the tree stands the same
  pub flags-same : (m : Modal) → tree_as d leaves m ≡ tree_as d other m
  flags-same m =
      map-same (placed_as d leaves m) (placed_as d other m) (leaf_list d.views)
      (λ k e h. let leaf = get_or (leaf_list d.views) k e in
      ap (λ b. flagged d leaves m leaf b (is_enabled d leaves leaf.node)) (visible-same d leaves other same leaf)
      ∙ ap (flagged d leaves m leaf (is_visible d other leaf)) (enabled-same d leaves other same leaf.node))
