use Rattle.tv_io.proofs.PenLemmas.{Puts-then}
use Rattle.tv_ways.proofs.listing.put_answer.Goals as goal

pub returns-in-Never : goal.returns-in-Never
returns-in-Never g c = rw c.in-Never.is (Puts-then (Puts-then c.put.ensures c.put_reason.ensures) c.put-in-Never.ensures)

pub returns-in-Unknown : goal.returns-in-Unknown
returns-in-Unknown g c = rw c.in-Unknown.is c.put-in-Unknown.ensures
