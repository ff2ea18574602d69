use Rattle.std.proofs.Common.{◌≡◌, ℕ, option_copied, ◌+◌, ◌<◌, ◌≤◌, length}
use Rattle.std.specs.Prelude.{slice_index_or}
use Rattle.tv_cells.specs.Glyph.{blank}
use Rattle.tv_cells.specs.Sheets.{inlaid}
use Rattle.tv_cells.proofs.inlaid.InlaidFace.row.Given as goal

-- the cells before are those of the face with the sheet, the others those of the face alone
abbrev pub invariant-loop-i : goal.invariant-loop-i
invariant-loop-i g l =
    ((k : ℕ) → k < l.i → slice_index_or l.cells k blank ≡ inlaid (option_copied l.self.sheet) l.self.width l.self.height (g.F.Face.face l.self.face.now) (l.from + k) l.y)
    × ((k : ℕ) → l.i ≤ k → k < length l.cells → slice_index_or l.cells k blank ≡ g.F.Face.face l.self.face.now (l.from + k) l.y)
