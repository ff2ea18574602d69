use Rattle.tv_cells.specs.Glyph.{shaded}
use Rattle.tv_cells.specs.Picture.{Changes}
use Rattle.tv_cells.specs.Canvas.{IsInArea}
use Rattle.tv_cells.proofs.RowLemmas.{rows_before}
use Rattle.tv_cells.proofs.canvas.Canvas.shade.Given as goal

abbrev pub invariant-loop-row : goal.invariant-loop-row
invariant-loop-row l = Changes (IsInArea (rows_before l.area l.row)) (λ _ _ under. shaded under) l.fn.screen l.screen
