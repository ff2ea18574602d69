use Rattle.std.proofs.Common.{◌≡◌, ◌++◌, drop}
use Rattle.std.specs.List.{filter_map}
use Rattle.tv_dialog.specs.Plan.{gate_of}
use Rattle.tv_dialog.proofs.plan.kept_gates.Given as goal

abbrev pub invariant-loop-rule : goal.invariant-loop-rule
invariant-loop-rule l = l.gates ++ filter_map (gate_of l.views) (drop l.rule-index l.rules) ≡ filter_map (gate_of l.views) l.rules
