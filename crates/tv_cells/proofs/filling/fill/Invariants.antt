use Rattle.std.proofs.Common.{◌≡◌, ◌<◌, ◌*◌, ℕ, slice_index_or}
use Rattle.tv_cells.specs.Glyph.{blank}
use Rattle.tv_cells.proofs.filling.fill.Given as goal

abbrev pub invariant-loop-block : goal.invariant-loop-block
invariant-loop-block l = (k : ℕ) → k < l.block * 16 → slice_index_or l.cells k blank ≡ l.cell
