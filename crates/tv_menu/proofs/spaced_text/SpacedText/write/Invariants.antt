use Rattle.tv_menu.specs.Cells.{over_columns, spaced_cell}
use Rattle.tv_menu.proofs.RowLemmas.{IsWritten}
use Rattle.tv_menu.proofs.spaced_text.SpacedText.write.Given as goal

abbrev pub invariant-loop-i : goal.invariant-loop-i
invariant-loop-i l = IsWritten (over_columns l.first l.count (spaced_cell l.self)) l.from l.fn.cells l.cells l.i
