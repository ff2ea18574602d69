use Rattle.tv_io.proofs.PenLemmas.{Puts-then}
use Rattle.tv_terminal.proofs.svg.put_head.Goals as goal

pub returns : goal.returns
returns g c =
    let box = Puts-then (Puts-then (Puts-then (Puts-then c.put.ensures c.put_number.ensures) c.put-2.ensures) c.put_number-2.ensures) c.put-3.ensures in
    Puts-then (Puts-then (Puts-then box c.put_size.ensures) c.put-4.ensures) c.put-5.ensures
