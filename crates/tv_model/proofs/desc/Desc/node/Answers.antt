use Rattle.std.proofs.Common.{flat_map}
use Rattle.tv_model.specs.Description.Heads.{window_nodes, dialog_nodes}
use Rattle.tv_model.proofs.NodeLemmas.{found, missed, found_last, missed_last}
use Rattle.tv_model.proofs.desc.Desc.node.Goals as goal

pub returns-in-Some : goal.returns-in-Some
returns-in-Some c =
    found window_nodes c.args.id (flat_map dialog_nodes c.args.self.now.dialogs) c.as_slice-window-items.result.now c.loop-window.window-index c.window-item.result _ c.in-Some.node.now c.loop-window-test.true c.window-item.is c.loop-window.invariant c.in-Some.ensures

pub loop-window-preserved : goal.loop-window-preserved
loop-window-preserved c =
    missed window_nodes c.args.id (flat_map dialog_nodes c.args.self.now.dialogs) c.as_slice-window-items.result.now c.loop-window.window-index c.window-item.result _ c.loop-window-test.true c.window-item.is c.loop-window.invariant c.in_default.ensures

pub returns-in-Some-node : goal.returns-in-Some-node
returns-in-Some-node c =
    found_last dialog_nodes c.args.id c.as_slice-dialog-items.result.now c.loop-dialog.dialog-index c.dialog-item.result _ c.loop-dialog-test.true c.dialog-item.is c.loop-dialog.invariant c.in-Some-node.node.now c.in-Some-node.ensures

pub loop-dialog-preserved : goal.loop-dialog-preserved
loop-dialog-preserved c =
    missed_last dialog_nodes c.args.id c.as_slice-dialog-items.result.now c.loop-dialog.dialog-index c.dialog-item.result _ c.loop-dialog-test.true c.dialog-item.is c.loop-dialog.invariant c.in_default-node.ensures
