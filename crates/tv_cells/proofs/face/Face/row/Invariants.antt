use Rattle.std.proofs.Common.{◌≡◌, ◌+◌, ◌<◌, ℕ, slice_index_or}
use Rattle.tv_cells.specs.Glyph.{blank}
use Rattle.tv_cells.proofs.face.Face.row.Given as goal

abbrev pub invariant-loop-i : goal.invariant-loop-i
invariant-loop-i g l = (k : ℕ) → k < l.i → slice_index_or l.cells k blank ≡ g.Self.Face.face l.self (l.from + k) l.y
