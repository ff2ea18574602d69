use Rattle.std.proofs.Common.{◌≡◌, ◌++◌, drop}
use Rattle.std.specs.List.{filter_map}
use Rattle.tv_dialog.specs.Plan.{showing_of}
use Rattle.tv_dialog.proofs.plan.kept_showings.Given as goal

abbrev pub invariant-loop-rule : goal.invariant-loop-rule
invariant-loop-rule l = l.showings ++ filter_map (showing_of l.views) (drop l.rule-index l.rules) ≡ filter_map (showing_of l.views) l.rules
