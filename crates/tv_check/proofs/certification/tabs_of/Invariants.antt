use Rattle.std.proofs.Common.{◌≡◌, ◌++◌, filter_map, drop}
use Rattle.tv_model.specs.Description.Certificates.{control_name, tabs_of}
use Rattle.tv_check.proofs.certification.tabs_of.Given as goal

abbrev pub invariant-loop-node : goal.invariant-loop-node
invariant-loop-node l = l.tabs ++ filter_map (λ node. control_name node.kind) (drop l.node-index l.node-items) ≡ tabs_of l.dialog
