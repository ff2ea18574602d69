use Rattle.std.proofs.Common.{ap, decimal}
use Rattle.tv_io.proofs.PenLemmas.{Puts-along, Puts-then}
use Rattle.tv_script.proofs.tape.put_rest.Goals as goal

pub returns-in-Ctrl : goal.returns-in-Ctrl
returns-in-Ctrl g c = rw c.in-Ctrl.is (Puts-then c.put.ensures c.put_char.ensures)

pub returns-in-Function : goal.returns-in-Function
returns-in-Function g c = rw c.in-Function.is (Puts-then c.put-in-Function.ensures (Puts-along (ap decimal c.from.ensures) c.put_number.ensures))

pub returns-in-Alt : goal.returns-in-Alt
returns-in-Alt g c = rw c.in-Alt.is (Puts-then c.put-in-Alt.ensures c.put_char-in-Alt.ensures)
