use Rattle.std.proofs.Common.{flat_map}
use Rattle.tv_cells.specs.Picture.{cell_at}
use Rattle.std.specs.List.{range_with_len}
use Rattle.std.proofs.Common.{decimal, codes, ◌++◌}
use Rattle.tv_io.specs.Pen.{Puts}
use Rattle.tv_script.specs.ScreenText.{aspect_word, cell_text}
use Rattle.tv_model.specs.Log.LogText.{line_of}
use Rattle.tv_machine.specs.Output.{row_text}
use Rattle.tv_script.proofs.shot.put_screen.Given as goal

abbrev pub invariant-loop-row : goal.invariant-loop-row
invariant-loop-row g l =
    Puts g.W.Writer.seen l.fn.pen l.pen
    (line_of (aspect_word l.aspect) (decimal l.screen.width ++ codes " " ++ decimal l.screen.height)
    ++ flat_map (row_text (cell_text l.aspect) l.screen.width (cell_at l.screen)) (range_with_len 0 l.row))
