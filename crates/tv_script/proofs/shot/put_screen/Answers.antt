use Rattle.std.proofs.Common.{ap, ◌∙◌, append_assoc, decimal, codes, ◌++◌, flat_map}
use Rattle.std.specs.List.{range_with_len}
use Rattle.tv_cells.specs.Picture.{cell_at}
use Rattle.tv_model.specs.Log.LogText.{line_of}
use Rattle.tv_machine.specs.Output.{row_text}
use Rattle.tv_script.specs.ScreenText.{aspect_word, cell_text}
use Rattle.tv_io.proofs.PenLemmas.{Puts-then, Puts-along}
use Rattle.tv_script.proofs.RangeLemmas.{flat_map-range-more}
use Rattle.tv_script.proofs.shot.put_screen.Goals as goal

pub loop-row-preserved : goal.loop-row-preserved
loop-row-preserved g c =
    let screen = c.args.screen.now in
    let size = line_of (aspect_word c.args.aspect) (decimal screen.width ++ codes " " ++ decimal screen.height) in
    let rows = row_text (cell_text c.args.aspect) screen.width (cell_at screen) in
    let row = c.loop-row.row in
    Puts-along (append_assoc size (flat_map rows (range_with_len 0 row)) (rows row) ∙ ap (λ t. size ++ t) (flat_map-range-more rows row))
    (Puts-then c.loop-row.invariant c.put_row.ensures)
