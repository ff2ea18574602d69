use Rattle.std.proofs.Common.{◌≡◌, ◌<◌, ◌≤◌, ℕ, slice_index_or}
use Rattle.tv_cells.specs.Glyph.{blank, shaded}
use Rattle.tv_cells.proofs.screen.shade_all.Given as goal

abbrev pub invariant-loop-i : goal.invariant-loop-i
invariant-loop-i l = record {
  done : (k : ℕ) → k < l.i → slice_index_or l.cells k blank ≡ shaded (slice_index_or l.fn.cells k blank);
  left : (k : ℕ) → l.i ≤ k → slice_index_or l.cells k blank ≡ slice_index_or l.fn.cells k blank;
}
