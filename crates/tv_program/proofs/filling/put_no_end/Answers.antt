use Rattle.std.proofs.Common.{ap}
use Rattle.tv_model.specs.Log.LogText.{bytes_of}
use Rattle.tv_io.proofs.PenLemmas.{Puts-along, Puts-then}
use Rattle.tv_program.proofs.filling.put_no_end.Goals as goal

pub returns : goal.returns
returns g c =
    Puts-then (Puts-then (Puts-then (Puts-along c.end_word.ensures c.put.ensures) c.put-2.ensures) (Puts-along (ap bytes_of c.as_slice.ensures) c.put_chars.ensures)) c.put-3.ensures
