use Rattle.tv_io.proofs.PenLemmas.{Puts-then}
use Rattle.tv_ways.proofs.listing.put_way.Goals as goal

pub returns : goal.returns
returns g c = Puts-then (Puts-then c.put_goal.ensures c.put.ensures) c.put_answer.ensures
