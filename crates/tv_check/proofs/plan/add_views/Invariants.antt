use Rattle.std.proofs.Common.{◌≡◌, ◌≤◌, ◌++◌, map, drop}
use Rattle.tv_declarations.specs.Spelling.{view_declarations}
use Rattle.tv_check.specs.Plan.{lent_step, steps_of}
use Rattle.tv_check.proofs.plan.add_views.Given as goal

abbrev pub invariant-loop-view : goal.invariant-loop-view
invariant-loop-view l = (map lent_step l.plan.items ++ steps_of (view_declarations l.panes (drop l.view-index l.views)) ≡ map lent_step l.fn.plan.items ++ steps_of (view_declarations 0 l.views)) × (l.panes ≤ 256)
