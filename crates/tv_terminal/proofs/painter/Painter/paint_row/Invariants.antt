use Rattle.tv_cells.specs.Row.{IsInRow}
use Rattle.tv_terminal.specs.Writing.{Draws}
use Rattle.tv_terminal.proofs.painter.Painter.paint_row.Given as goal

abbrev pub invariant-loop-column : goal.invariant-loop-column
invariant-loop-column g l = Draws g.W.Writer.seen (IsInRow l.span.left l.column l.span.row) l.screen l.fn.self l.self l.fn.hand l.hand l.fn.pen l.pen
