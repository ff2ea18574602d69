use Rattle.tv_model.specs.Log.LogText.{line_of}
use Rattle.tv_io.proofs.PenLemmas.{Puts-then, Puts-along}
use Rattle.tv_script.proofs.lines.put_end.Goals as goal

pub returns : goal.returns
unfolding line_of
returns g c =
    let name = c.put_name.ensures in
    let word = Puts-along c.end_word.ensures c.put-3.ensures in
    Puts-then (Puts-then c.put.ensures (Puts-then (Puts-then name c.put-2.ensures) word)) c.put-4.ensures
