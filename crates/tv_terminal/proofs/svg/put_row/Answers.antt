use Rattle.std.proofs.Common.{arith}
use Rattle.tv_cells.specs.Picture.{cell_at}
use Rattle.tv_terminal.proofs.PutLemmas.{puts-no_strip, puts-next_strip, puts-all_strips}
use Rattle.tv_terminal.proofs.svg.put_row.Goals as goal

pub loop-column-init : goal.loop-column-init
loop-column-init g c = puts-no_strip c.args.screen.now.width (cell_at c.args.screen.now) c.args.row c.args.pen.now

pub loop-column-preserved : goal.loop-column-preserved
loop-column-preserved g c =
    puts-next_strip c.args.screen.now.width (cell_at c.args.screen.now) c.args.row c.loop-column.column c.strip_end-end.result
    c.strip_end-end.ensures c.loop-column.invariant c.put_strip.ensures

pub returns : goal.returns
returns g c =
    puts-all_strips c.args.screen.now.width (cell_at c.args.screen.now) c.args.row c.loop-column.column (omega arith) c.loop-column.invariant
