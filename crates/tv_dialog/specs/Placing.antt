-- A leaf in its panes, as the code lends it.
use Rattle.std.specs.Prelude.{map}
use Rattle.tv_machine.specs.Leaves.{PlacedNode}
use Rattle.tv_dialog.specs.declared.plan.Placed.{Placed}

abbrev pub placed_node : Placed → PlacedNode
placed_node leaf = record { node = leaf.node.now; panes = map (λ pane. pane.now) leaf.panes.now }
