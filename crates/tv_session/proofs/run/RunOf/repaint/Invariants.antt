use Rattle.std.proofs.Common.{take}
use Rattle.tv_cells.specs.Layers.{cell_of}
use Rattle.tv_cells.specs.Picture.{Changes}
use Rattle.tv_cells.proofs.RepaintingLemmas.{IsDone}
use Rattle.tv_machine.specs.Screen.Layers.{layers_of}
use Rattle.tv_machine.specs.State.{State}
use Rattle.tv_session.specs.Running.{CanPaint}
use Rattle.tv_session.proofs.run.RunOf.repaint.Given as goal

-- each cell of the rectangles so far shows the state, and every other cell is as it was
abbrev pub invariant-loop-rect : goal.invariant-loop-rect
invariant-loop-rect g l =
    (s : State) → CanPaint g.V.View.meaning l.desc s l.self l.line l.initial.screen
    → Changes (IsDone (take l.rect-index l.rect-items)) (λ column row _. cell_of (layers_of l.desc s) column row) l.initial.screen l.screen
