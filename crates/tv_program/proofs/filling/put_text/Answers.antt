use Rattle.tv_io.proofs.PenLemmas.{Puts-then}
use Rattle.tv_program.proofs.filling.put_text.Goals as goal

pub returns : goal.returns
returns g c = Puts-then (Puts-then c.put_kind.ensures c.put.ensures) c.put_place.ensures
