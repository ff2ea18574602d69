use Rattle.std.proofs.Common.{◌≡◌, arith}
use Rattle.tv_terminal.proofs.DrawLemmas.{alike-still}
use Rattle.tv_terminal.proofs.RegionLemmas.{draws-next_cell, draws-no_row}
use Rattle.tv_terminal.proofs.painter.Painter.paint_row.Goals as goal

pub loop-column-init : goal.loop-column-init
loop-column-init g c = draws-no_row c.args.hand.now c.args.span.left c.args.span.row

pub paint_cell-requires-clause-size : goal.paint_cell-requires-clause-size
paint_cell-requires-clause-size g c = alike-still c.requires.size c.loop-column.invariant.changes.size

pub paint_cell-requires-clause-place : goal.paint_cell-requires-clause-place
paint_cell-requires-clause-place g c =
    let size = c.loop-column.invariant.changes.size in
    record { across = omega (arith, size.width, c.requires.across); down = omega (arith, size.height, c.requires.down) }

pub loop-column-preserved : goal.loop-column-preserved
loop-column-preserved g c = draws-next_cell c.args.span.left c.loop-column.column c.args.span.row (omega arith) c.loop-column.invariant c.paint_cell.ensures

pub returns : goal.returns
returns g c =
    let end : c.loop-column.column ≡ c.args.span.right = omega arith in
    rw end at c.loop-column.invariant
