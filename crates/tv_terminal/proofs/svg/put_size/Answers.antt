use Rattle.tv_io.proofs.PenLemmas.{Puts-then}
use Rattle.tv_terminal.proofs.svg.put_size.Goals as goal

pub returns : goal.returns
returns g c = Puts-then c.put_attribute.ensures c.put_attribute-2.ensures
