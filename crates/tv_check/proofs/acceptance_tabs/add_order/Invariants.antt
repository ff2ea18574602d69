use Rattle.std.proofs.Common.{◌≡◌, ◌++◌, map, filter_map, drop}
use Rattle.tv_model.specs.Description.Certificates.{control_name, dialog_name, tabs_of}
use Rattle.tv_check.specs.Lent.{lent_tab}
use Rattle.tv_check.proofs.acceptance_tabs.add_order.Given as goal

abbrev pub invariant-loop-node : goal.invariant-loop-node
invariant-loop-node l = map lent_tab l.tabs.items ++ map (λ name. (dialog_name l.dialog, name)) (filter_map (λ node. control_name node.kind) (drop l.node-index l.node-items)) ≡ map lent_tab l.fn.tabs.items ++ map (λ name. (dialog_name l.dialog, name)) (tabs_of l.dialog)
