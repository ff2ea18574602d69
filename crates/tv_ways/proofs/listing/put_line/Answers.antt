use Rattle.tv_io.proofs.PenLemmas.{Puts-then}
use Rattle.tv_ways.proofs.listing.put_line.Goals as goal

pub returns : goal.returns
returns g c = Puts-then c.put_way.ensures c.put.ensures
