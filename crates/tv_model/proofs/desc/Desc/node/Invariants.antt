use Rattle.std.proofs.Common.{◌≡◌, ◌++◌, drop, flat_map}
use Rattle.tv_model.specs.Description.Nodes.{node_of}
use Rattle.tv_model.specs.Description.Heads.{all_nodes, window_nodes, dialog_nodes}
use Rattle.tv_model.proofs.desc.Desc.node.Given as goal

abbrev pub invariant-loop-window : goal.invariant-loop-window
invariant-loop-window l = node_of (all_nodes l.self) l.id ≡ node_of (flat_map window_nodes (drop l.window-index l.window-items) ++ flat_map dialog_nodes l.self.dialogs) l.id

abbrev pub invariant-loop-dialog : goal.invariant-loop-dialog
invariant-loop-dialog l = node_of (all_nodes l.self) l.id ≡ node_of (flat_map dialog_nodes (drop l.dialog-index l.dialog-items)) l.id
