use Rattle.tv_model.specs.Log.LogText.{line_of}
use Rattle.tv_io.proofs.PenLemmas.{Puts-then}
use Rattle.tv_script.proofs.lines.put_name_line.Goals as goal

pub returns : goal.returns
unfolding line_of
returns g c = Puts-then (Puts-then c.put.ensures (c.put_name.ensures)) c.put-2.ensures
