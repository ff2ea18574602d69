use Rattle.std.proofs.Common.{◌≡◌, ◌<◌, ◌+◌, ℕ, slice_index_or}
use Rattle.tv_model.specs.Screen.Faces.{text_row}
use Rattle.tv_cells.specs.Glyph.{blank, shown}
use Rattle.tv_faces.proofs.row.write_row.Given as goal

abbrev pub invariant-loop-i : goal.invariant-loop-i
invariant-loop-i l = (k : ℕ) → k < l.i → slice_index_or l.front k blank ≡ shown (text_row l.text (l.from + k)) l.attr
