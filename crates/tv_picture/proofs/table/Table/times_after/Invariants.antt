use Rattle.tv_picture.proofs.Repeated.{Counted}
use Rattle.tv_picture.proofs.table.Table.times_after.Given as goal

abbrev pub invariant-loop-done : goal.invariant-loop-done
invariant-loop-done l = Counted l.self l.fn.first l.len l.row l.done
