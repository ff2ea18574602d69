use Rattle.std.proofs.Common.{◌≡◌, ◌≤◌, ◌+◌, ◌++◌, length, drop}
use Rattle.tv_dialog.specs.Plan.{shown_among}
use Rattle.tv_dialog.proofs.ruled.fill_shown.Given as goal

-- those that were added, and those among the leaves that are left
abbrev pub invariant-loop-leaf : goal.invariant-loop-leaf
invariant-loop-leaf l = record {
  count : length l.shown.items ≤ length l.initial.shown.items + l.leaf-index;
  added : length l.initial.shown.items + length l.leaves ≤ 64
      → l.shown.items ++ shown_among l.marks (drop l.leaf-index l.leaves) ≡ l.initial.shown.items ++ shown_among l.marks l.leaves;
}
