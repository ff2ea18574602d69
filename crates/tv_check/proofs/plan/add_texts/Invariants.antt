use Rattle.std.proofs.Common.{◌≡◌, ◌++◌, map, drop}
use Rattle.tv_check.specs.Plan.{lent_step, node_step}
use Rattle.tv_check.proofs.plan.add_texts.Given as goal

abbrev pub invariant-loop-text : goal.invariant-loop-text
invariant-loop-text l = map lent_step l.plan.items ++ map node_step (drop l.text-index l.texts) ≡ map lent_step l.fn.plan.items ++ map node_step l.texts
