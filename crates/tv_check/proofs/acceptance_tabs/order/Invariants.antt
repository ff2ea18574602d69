use Rattle.std.proofs.Common.{◌≡◌, ◌++◌, map, flat_map, drop}
use Rattle.tv_model.specs.Description.Certificates.{dialog_name, tab_order, tabs_of}
use Rattle.tv_check.specs.Lent.{lent_tab}
use Rattle.tv_check.proofs.acceptance_tabs.order.Given as goal

abbrev pub invariant-loop-dialog : goal.invariant-loop-dialog
invariant-loop-dialog l = map lent_tab l.tabs.items ++ flat_map (λ dialog. map (λ name. (dialog_name dialog, name)) (tabs_of dialog)) (drop l.dialog-index l.dialog-items) ≡ tab_order l.desc
