use Rattle.tv_terminal.specs.Writing.{Draws}
use Rattle.tv_terminal.proofs.RegionLemmas.{IsInSpan}
use Rattle.tv_terminal.proofs.painter.Painter.paint_rect.Given as goal

abbrev pub invariant-loop-row : goal.invariant-loop-row
invariant-loop-row g l = Draws g.W.Writer.seen (IsInSpan l.left l.right l.initial.row l.row) l.screen l.fn.self l.self l.fn.hand l.hand l.fn.pen l.pen
