use Rattle.std.proofs.Common.{flat_map}
use Rattle.std.specs.List.{range_with_len}
use Rattle.tv_cells.specs.Picture.{cell_at}
use Rattle.tv_held.specs.Looking.{row_bytes}
use Rattle.tv_io.specs.Pen.{Puts}
use Rattle.tv_held.proofs.looking.put_screen.Given as goal

abbrev pub invariant-loop-row : goal.invariant-loop-row
invariant-loop-row g l =
    Puts g.W.Writer.seen l.fn.pen l.pen (flat_map (row_bytes l.screen.width (cell_at l.screen)) (range_with_len 0 l.row))
