use Rattle.std.proofs.Common.{arith}
use Rattle.tv_cells.proofs.NarrowLemmas.{ascii_narrow}
use Rattle.tv_cells.proofs.cell.Cell.space.Goals as goal

pub invariant_of-result : goal.invariant_of-result
invariant_of-result c = (ascii_narrow 32 (omega arith) (omega arith), omega arith)
