-- The spaces so far, and those that are left.
use Rattle.std.proofs.Common.{◌≡◌, ◌-◌, ◌++◌, replicate}
use Rattle.tv_boxes.proofs.items.push_spaces.Given as goal

abbrev pub invariant-loop : goal.invariant-loop
invariant-loop l = l.row.items ++ replicate (l.count - l.counter) 32 ≡ l.fn.row.items ++ replicate l.count 32
