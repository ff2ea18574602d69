use Rattle.tv_cells.specs.Row.{IsInRow}
use Rattle.tv_terminal.specs.Sameness.{IsSameWithin}
use Rattle.tv_terminal.proofs.sameness.is_same_in_row.Given as goal

abbrev pub invariant-loop-column : goal.invariant-loop-column
invariant-loop-column l = IsSameWithin (IsInRow l.left l.column l.row) l.one l.other
