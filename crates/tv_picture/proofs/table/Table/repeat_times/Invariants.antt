use Rattle.std.proofs.Common.{◌≡◌, ◌+◌, ◌*◌, ℕ, List, length}
use Rattle.tv_picture.specs.Pattern.{Pattern, times}
use Rattle.tv_picture.specs.Table.{HasEachRow}
use Rattle.tv_picture.proofs.table.Table.repeat_times.Given as goal

-- the table has i repetitions, the power j, and what is left of the count times j is missing
abbrev pub invariant-loop-left : goal.invariant-loop-left
invariant-loop-left l = (i : ℕ) × (j : ℕ) × (i + j * l.left ≡ l.fn.count) × ((a : Pattern) (text : List ℕ) → length text ≡ l.len → HasEachRow a text l.fn.self → HasEachRow (times i a) text l.self × HasEachRow (times j a) text l.power)

abbrev pub decreases-loop-left : goal.decreases-loop-left
decreases-loop-left l = l.left
