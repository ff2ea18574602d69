use Rattle.tv_io.proofs.PenLemmas.{Puts-then}
use Rattle.tv_ways.proofs.listing.put_reason.Goals as goal

pub returns-in-Blocked : goal.returns-in-Blocked
returns-in-Blocked g c = rw c.in-Blocked.is (Puts-then c.put_name.ensures c.put-in-Blocked.ensures)

pub returns-in-NotFree : goal.returns-in-NotFree
returns-in-NotFree g c = rw c.in-NotFree.is c.put-in-NotFree.ensures

pub returns-in-NotShown : goal.returns-in-NotShown
returns-in-NotShown g c = rw c.in-NotShown.is c.put-in-NotShown.ensures
