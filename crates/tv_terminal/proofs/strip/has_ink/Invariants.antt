use Rattle.std.proofs.Common.{◌≡◌, ℕ, ◌<◌, ◌≤◌}
use Rattle.tv_cells.specs.Picture.{cell_at}
use Rattle.tv_terminal.proofs.strip.has_ink.Given as goal

abbrev pub invariant-loop-column : goal.invariant-loop-column
invariant-loop-column l = (k : ℕ) → l.start ≤ k → k < l.column → (cell_at l.screen k l.row).ch ≡ 32
