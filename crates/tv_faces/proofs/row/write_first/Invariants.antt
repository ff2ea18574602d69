use Rattle.std.proofs.Common.{◌≡◌, ◌<◌, ◌≤◌, ◌+◌, ℕ, length, slice_index_or}
use Rattle.tv_cells.specs.Glyph.{blank, shown}
use Rattle.tv_faces.proofs.row.write_first.Given as goal

abbrev pub invariant-loop-i : goal.invariant-loop-i
invariant-loop-i l = record {
  written : (k : ℕ) → k < length l.cells → k < l.i → slice_index_or l.cells k blank ≡ shown (slice_index_or l.chars (l.from + k) 32) l.attr;
  after : (k : ℕ) → k < length l.cells → l.i ≤ k → slice_index_or l.cells k blank ≡ slice_index_or l.fn.cells k blank;
}
