use Rattle.tv_io.proofs.PenLemmas.{Puts-then}
use Rattle.tv_terminal.proofs.element.put_rect.Goals as goal

pub returns : goal.returns
returns g c =
    let place = Puts-then (Puts-then c.put.ensures c.put_attribute.ensures) c.put_attribute-2.ensures in
    let size = Puts-then (Puts-then place c.put_attribute-3.ensures) c.put_attribute-4.ensures in
    Puts-then (Puts-then size c.put_fill.ensures) c.put-2.ensures
