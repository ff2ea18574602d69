use Rattle.std.proofs.Common.{◌≡◌, ◌++◌, drop}
use Rattle.tv_dialog.specs.Plan.{conditions_among}
use Rattle.tv_dialog.specs.Placing.{placed_node}
use Rattle.tv_dialog.proofs.plan.kept_conditions.Given as goal

abbrev pub invariant-loop-showing : goal.invariant-loop-showing
invariant-loop-showing l =
    l.conditions ++ conditions_among (placed_node l.leaf) (drop l.showing-index l.showings) ≡ conditions_among (placed_node l.leaf) l.showings
