use Rattle.std.proofs.Common.{◌≡◌, ◌<◌, ◌+◌, ℕ, slice_index_or}
use Rattle.tv_cells.specs.Glyph.{blank, glyph}
use Rattle.tv_cells.proofs.narrow_text.write_text.Given as goal

abbrev pub invariant-loop-i : goal.invariant-loop-i
invariant-loop-i l = (k : ℕ) → k < l.i → slice_index_or l.front k blank ≡ glyph (slice_index_or l.text (l.from + k) 32) l.attr
