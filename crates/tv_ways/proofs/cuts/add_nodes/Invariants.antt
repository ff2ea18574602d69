use Rattle.std.proofs.Common.{◌≡◌, ◌++◌, drop, flat_map}
use Rattle.tv_ways.specs.Cuts.{cuts_of_node}
use Rattle.tv_ways.proofs.cuts.add_nodes.Given as goal

abbrev pub invariant-loop-node : goal.invariant-loop-node
invariant-loop-node l =
    l.cuts.items ++ flat_map cuts_of_node (drop l.node-index l.nodes) ≡ l.initial.cuts.items ++ flat_map cuts_of_node l.nodes
