use Rattle.tv_io.proofs.PenLemmas.{Puts-then}
use Rattle.tv_script.specs.Tapes.{said}
use Rattle.tv_script.proofs.tape.put_typed.Goals as goal

pub returns : goal.returns
unfolding said
returns g c = Puts-then c.put.ensures c.put_quoted.ensures
