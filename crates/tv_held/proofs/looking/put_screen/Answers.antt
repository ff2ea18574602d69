use Rattle.tv_cells.specs.Picture.{cell_at}
use Rattle.tv_held.specs.Looking.{row_bytes}
use Rattle.tv_io.proofs.PenLemmas.{Puts-along, Puts-then}
use Rattle.tv_script.proofs.RangeLemmas.{flat_map-range-more}
use Rattle.tv_held.proofs.looking.put_screen.Goals as goal

pub loop-row-preserved : goal.loop-row-preserved
loop-row-preserved g c =
    Puts-along (flat_map-range-more (row_bytes c.args.screen.now.width (cell_at c.args.screen.now)) c.loop-row.row)
    (Puts-then c.loop-row.invariant c.put_row.ensures)
