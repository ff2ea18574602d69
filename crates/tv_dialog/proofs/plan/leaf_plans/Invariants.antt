use Rattle.std.proofs.Common.{◌≡◌, ◌++◌, drop, map}
use Rattle.tv_machine.specs.Leaves.{leaf_list, leaves_in}
use Rattle.tv_dialog.specs.Plan.{leaf_plan}
use Rattle.tv_dialog.proofs.plan.leaf_plans.Given as goal

-- the leaves so far, and those of the views that are left
abbrev pub invariant-loop-view : goal.invariant-loop-view
invariant-loop-view l =
    l.leaves ++ map (leaf_plan l.views l.rules) (leaves_in (map (λ pane. pane.now) l.panes.items) (drop l.view-index l.views))
    ≡ map (leaf_plan l.views l.rules) (leaf_list l.views)
