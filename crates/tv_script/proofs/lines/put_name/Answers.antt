use Rattle.std.proofs.Common.{ap}
use Rattle.tv_model.specs.Log.LogText.{bytes_of}
use Rattle.tv_io.proofs.PenLemmas.{Puts-along}
use Rattle.tv_script.proofs.lines.put_name.Goals as goal

pub returns : goal.returns
returns g c = Puts-along (ap bytes_of c.name.ensures) c.put_chars.ensures
