use Rattle.std.proofs.Common.{◌≡◌, map, take}
use Rattle.tv_check.specs.Lent.{lent_tab}
use Rattle.tv_check.proofs.acceptance_tabs.first_difference.Given as goal

abbrev pub invariant-loop-before : goal.invariant-loop-before
invariant-loop-before l = take l.before (map lent_tab l.given) ≡ take l.before (map lent_tab l.order)
