use Rattle.tv_cells.specs.Picture.{Changes}
use Rattle.tv_cells.specs.Canvas.{IsInArea, face_at}
use Rattle.tv_cells.proofs.RowLemmas.{rows_before}
use Rattle.tv_cells.proofs.face.paint.Given as goal

abbrev pub invariant-loop-row : goal.invariant-loop-row
invariant-loop-row g l = Changes (IsInArea (rows_before l.area l.row)) (λ column row _. face_at l.fn.canvas (g.F.Face.face l.face) column row) l.fn.screen l.screen
