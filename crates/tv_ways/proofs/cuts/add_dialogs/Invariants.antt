use Rattle.std.proofs.Common.{◌≡◌, ◌++◌, drop, flat_map}
use Rattle.tv_model.specs.Description.Heads.{dialog_nodes}
use Rattle.tv_ways.specs.Cuts.{cuts_of_node}
use Rattle.tv_ways.proofs.cuts.add_dialogs.Given as goal

abbrev pub invariant-loop-dialog : goal.invariant-loop-dialog
invariant-loop-dialog l =
    l.cuts.items ++ flat_map cuts_of_node (flat_map dialog_nodes (drop l.dialog-index l.dialogs)) ≡ l.initial.cuts.items ++ flat_map cuts_of_node (flat_map dialog_nodes l.dialogs)
