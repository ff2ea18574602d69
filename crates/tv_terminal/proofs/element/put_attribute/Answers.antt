use Rattle.tv_io.proofs.PenLemmas.{Puts-then}
use Rattle.tv_terminal.proofs.element.put_attribute.Goals as goal

pub returns : goal.returns
returns g c =
    Puts-then (Puts-then (Puts-then (Puts-then c.put.ensures c.put-2.ensures) c.put-3.ensures) c.put_number.ensures) c.put-4.ensures
