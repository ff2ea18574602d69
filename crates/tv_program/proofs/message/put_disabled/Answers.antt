use Rattle.std.proofs.Common.{ap}
use Rattle.tv_model.specs.Log.LogText.{bytes_of, line_of}
use Rattle.tv_io.proofs.PenLemmas.{Puts-along, Puts-then}
use Rattle.tv_program.proofs.message.put_disabled.Goals as goal

pub returns : goal.returns
unfolding line_of
returns g c =
    Puts-then (
    Puts-then c.put.ensures (
    Puts-then (Puts-then (Puts-then (Puts-then c.put-2.ensures c.put-3.ensures) (Puts-along c.end_word.ensures c.put-4.ensures)) c.put-5.ensures) (Puts-along (ap bytes_of c.as_slice.ensures) c.put_chars.ensures)
    )
    ) c.put-6.ensures
