use Rattle.std.proofs.Common.{◌≡◌, ◌++◌, ◌≤◌, length}
use Rattle.tv_cells.proofs.hot_text.push_all.Given as goal

abbrev pub invariant-loop-ch : goal.invariant-loop-ch
invariant-loop-ch l = (l.items.items ≡ l.fn.items.items ++ l.yielded) × (length l.items.items ≤ 120)
