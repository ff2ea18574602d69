use Rattle.std.proofs.Common.{◌≡◌, ◌≤◌, ◌+◌, ◌*◌, ◌++◌, length}
use Rattle.tv_cells.specs.Picture.{cell_at}
use Rattle.tv_machine.specs.Output.{cells_text}
use Rattle.tv_script.specs.ScreenText.{cell_text}
use Rattle.tv_script.proofs.shot.push_cells.Given as goal

abbrev pub invariant-loop-column : goal.invariant-loop-column
invariant-loop-column l =
    (l.text.items ≡ l.fn.text.items ++ cells_text (cell_text l.aspect) l.column (cell_at l.screen) l.row) × (length l.text.items ≤ 1 + 4 * l.column)
