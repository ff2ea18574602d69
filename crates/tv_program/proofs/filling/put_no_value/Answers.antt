use Rattle.std.proofs.Common.{ap}
use Rattle.tv_model.specs.Log.LogText.{bytes_of}
use Rattle.tv_io.proofs.PenLemmas.{Puts-along, Puts-then}
use Rattle.tv_program.proofs.filling.put_no_value.Goals as goal

pub returns : goal.returns
returns g c =
    Puts-then (Puts-then (Puts-then (Puts-along (ap bytes_of c.as_slice.ensures) c.put_chars.ensures) c.put.ensures) (Puts-along (ap bytes_of c.as_slice-2.ensures) c.put_chars-2.ensures)) c.put-2.ensures
