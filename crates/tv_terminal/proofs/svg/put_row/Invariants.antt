use Rattle.std.proofs.Common.{◌-◌}
use Rattle.tv_cells.specs.Picture.{cell_at}
use Rattle.tv_terminal.proofs.PutLemmas.{PutsBefore}
use Rattle.tv_terminal.proofs.svg.put_row.Given as goal

abbrev pub invariant-loop-column : goal.invariant-loop-column
invariant-loop-column g l = PutsBefore g.W.Writer.seen l.screen.width (cell_at l.screen) l.row l.column l.fn.pen l.pen

abbrev pub decreases-loop-column : goal.decreases-loop-column
decreases-loop-column g l = l.screen.width - l.column
