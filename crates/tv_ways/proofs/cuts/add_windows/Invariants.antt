use Rattle.std.proofs.Common.{◌≡◌, ◌++◌, drop, flat_map}
use Rattle.tv_model.specs.Description.Heads.{window_nodes}
use Rattle.tv_ways.specs.Cuts.{cuts_of_node}
use Rattle.tv_ways.proofs.cuts.add_windows.Given as goal

abbrev pub invariant-loop-window : goal.invariant-loop-window
invariant-loop-window l =
    l.cuts.items ++ flat_map cuts_of_node (flat_map window_nodes (drop l.window-index l.windows)) ≡ l.initial.cuts.items ++ flat_map cuts_of_node (flat_map window_nodes l.windows)
