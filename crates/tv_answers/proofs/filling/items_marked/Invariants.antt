use Rattle.std.proofs.Common.{◌≡◌}
use Rattle.tv_answers.proofs.MarkLemmas.{items_below}
use Rattle.tv_answers.proofs.filling.items_marked.Given as goal

-- the marked items below the next one
abbrev pub invariant-loop-item : goal.invariant-loop-item
invariant-loop-item l = l.items ≡ items_below l.marks l.item
