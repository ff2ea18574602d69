use Rattle.std.proofs.Common.{◌-◌, flat_map}
use Rattle.tv_cells.specs.Picture.{cell_at}
use Rattle.tv_io.specs.Pen.{Puts}
use Rattle.tv_terminal.specs.Strips.{chars_from}
use Rattle.tv_terminal.specs.Svg.{char_text}
use Rattle.tv_terminal.proofs.strip.put_chars.Given as goal

abbrev pub invariant-loop-column : goal.invariant-loop-column
invariant-loop-column g l =
    Puts g.W.Writer.seen l.fn.pen l.pen (flat_map char_text (chars_from (cell_at l.screen) l.row l.start (l.column - l.start)))
