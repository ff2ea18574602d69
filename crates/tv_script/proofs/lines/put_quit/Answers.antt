use Rattle.tv_model.specs.Log.LogText.{line_of}
use Rattle.tv_script.proofs.lines.put_quit.Goals as goal

pub returns : goal.returns
unfolding line_of
returns g c = c.put.ensures
