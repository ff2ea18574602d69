use Rattle.tv_io.proofs.PenLemmas.{Puts-along, Puts-then}
use Rattle.tv_terminal.proofs.element.put_fill.Goals as goal

pub returns : goal.returns
returns g c = Puts-then (Puts-then c.put.ensures (Puts-along c.colour_text.ensures c.put-2.ensures)) c.put-3.ensures
