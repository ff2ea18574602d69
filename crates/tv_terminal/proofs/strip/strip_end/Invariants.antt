use Rattle.std.proofs.Common.{◌≡◌, ℕ, ◌<◌, ◌≤◌}
use Rattle.tv_cells.specs.Picture.{cell_at}
use Rattle.tv_terminal.proofs.strip.strip_end.Given as goal

abbrev pub invariant-loop-end : goal.invariant-loop-end
invariant-loop-end l = (k : ℕ) → l.column ≤ k → k < l.end → (cell_at l.screen k l.row).attr ≡ (cell_at l.screen l.column l.row).attr
