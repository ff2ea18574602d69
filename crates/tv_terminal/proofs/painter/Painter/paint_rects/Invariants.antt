use Rattle.std.proofs.Common.{◌≡◌, take, true}
use Rattle.tv_cells.specs.Repainting.{has_cell}
use Rattle.tv_terminal.specs.Writing.{Draws}
use Rattle.tv_terminal.proofs.painter.Painter.paint_rects.Given as goal

abbrev pub invariant-loop-rect : goal.invariant-loop-rect
invariant-loop-rect g l = Draws g.W.Writer.seen (λ column row. has_cell (take l.rect-index l.rects) column row ≡ true) l.screen l.fn.self l.self l.fn.hand l.hand l.fn.pen l.pen
