use Rattle.std.proofs.Common.{ap, decimal}
use Rattle.tv_model.specs.Log.LogText.{line_of}
use Rattle.tv_io.proofs.PenLemmas.{Puts-then, Puts-along}
use Rattle.tv_script.proofs.lines.put_command.Goals as goal

pub returns : goal.returns
unfolding line_of
returns g c = Puts-then (Puts-then c.put.ensures (Puts-along (ap decimal c.from.ensures) c.put_number.ensures)) c.put-2.ensures
