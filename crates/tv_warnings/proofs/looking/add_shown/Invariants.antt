use Rattle.std.proofs.Common.{◌≡◌, ◌++◌, drop}
use Rattle.tv_warnings.specs.Findings.{shown_goals}
use Rattle.tv_warnings.proofs.looking.add_shown.Given as goal

abbrev pub invariant-loop-view : goal.invariant-loop-view
invariant-loop-view l = l.goals ++ shown_goals (drop l.view-index l.views) ≡ l.initial.goals ++ shown_goals l.views
