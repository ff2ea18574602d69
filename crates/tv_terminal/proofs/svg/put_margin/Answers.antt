use Rattle.tv_io.proofs.PenLemmas.{Puts-then}
use Rattle.tv_terminal.proofs.svg.put_margin.Goals as goal

pub returns : goal.returns
returns g c = Puts-then (Puts-then c.put.ensures c.put_size.ensures) c.put-2.ensures
