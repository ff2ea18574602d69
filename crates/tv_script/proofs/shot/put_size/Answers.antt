use Rattle.std.proofs.Common.{ap, decimal}
use Rattle.tv_model.specs.Log.LogText.{line_of}
use Rattle.tv_io.proofs.PenLemmas.{Puts-then, Puts-along}
use Rattle.tv_script.proofs.shot.put_size.Goals as goal

pub returns : goal.returns
unfolding line_of
returns g c =
    let word = Puts-along c.aspect_word.ensures c.put.ensures in
    let width = Puts-along (ap decimal c.width.ensures.is) c.put_number.ensures in
    let height = Puts-along (ap decimal c.height.ensures.is) c.put_number-2.ensures in
    Puts-then (Puts-then word (Puts-then (Puts-then width c.put-2.ensures) height)) c.put-3.ensures
