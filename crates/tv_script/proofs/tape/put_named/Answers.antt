use Rattle.tv_io.proofs.PenLemmas.{Puts-along, Puts-then}
use Rattle.tv_script.specs.Tapes.{said}
use Rattle.tv_script.proofs.tape.put_named.Goals as goal

pub returns : goal.returns
unfolding said
returns g c = Puts-then c.put.ensures (Puts-then (Puts-along c.key_name.ensures c.put-2.ensures) c.put_rest.ensures)
