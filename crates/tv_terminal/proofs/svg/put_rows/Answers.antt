use Rattle.tv_cells.specs.Picture.{cell_at}
use Rattle.tv_io.proofs.PenLemmas.{Puts-along, Puts-then}
use Rattle.tv_terminal.specs.Svg.{row_elements}
use Rattle.tv_terminal.proofs.PutLemmas.{rows-more}
use Rattle.tv_terminal.proofs.svg.put_rows.Goals as goal

pub loop-row-preserved : goal.loop-row-preserved
loop-row-preserved g c =
    let screen = c.args.screen.now in
    Puts-along (rows-more (row_elements screen.width (cell_at screen)) c.loop-row.row) (Puts-then c.loop-row.invariant c.put_row.ensures)
