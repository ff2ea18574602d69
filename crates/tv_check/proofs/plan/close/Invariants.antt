use Rattle.std.proofs.Common.{◌≡◌, ◌-◌, ◌++◌, map, replicate}
use Rattle.tv_check.specs.Plan.{Closes, lent_step}
use Rattle.tv_check.proofs.plan.close.Given as goal

abbrev pub invariant-loop : goal.invariant-loop
invariant-loop l = map lent_step l.plan.items ++ replicate (l.count - l.counter) Closes ≡ map lent_step l.fn.plan.items ++ replicate l.count Closes
