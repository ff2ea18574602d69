use Rattle.tv_model.specs.Log.LogText.{line_of}
use Rattle.tv_io.proofs.PenLemmas.{Puts-then}
use Rattle.tv_files.proofs.telling.put_no_way.Goals as goal

pub returns : goal.returns
unfolding line_of
returns g c = Puts-then (Puts-then c.put.ensures (Puts-then (Puts-then c.put-2.ensures c.put-3.ensures) c.put-4.ensures)) c.put-5.ensures
