use Rattle.tv_io.proofs.PenLemmas.{Puts-along, Puts-then}
use Rattle.tv_ways.proofs.listing.put_goal.Goals as goal

pub returns-in-Ends : goal.returns-in-Ends
returns-in-Ends g c = rw c.in-Ends.is (Puts-then c.put-in-Ends.ensures (Puts-along c.end_word.ensures c.put-in-Ends-2.ensures))

pub returns-in-Focuses : goal.returns-in-Focuses
returns-in-Focuses g c = rw c.in-Focuses.is (Puts-then c.put-in-Focuses.ensures c.put_name.ensures)

pub returns-in-Shows : goal.returns-in-Shows
returns-in-Shows g c = rw c.in-Shows.is (Puts-then c.put-in-Shows.ensures c.put_name-in-Shows.ensures)
