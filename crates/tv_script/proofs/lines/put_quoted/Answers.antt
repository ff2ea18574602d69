use Rattle.tv_io.proofs.PenLemmas.{Puts-then}
use Rattle.tv_script.proofs.lines.put_quoted.Goals as goal

pub returns : goal.returns
returns g c = Puts-then c.put.ensures (Puts-then c.put_escaped.ensures c.put-2.ensures)
