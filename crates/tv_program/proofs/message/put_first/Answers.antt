use Rattle.tv_io.proofs.PenLemmas.{Puts-then}
use Rattle.tv_program.proofs.message.put_first.Goals as goal

pub returns : goal.returns
returns g c = Puts-then c.put.ensures c.put_fault.ensures
