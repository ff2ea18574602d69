use Rattle.tv_model.specs.Log.LogText.{line_of}
use Rattle.tv_program.proofs.message.put_version.Goals as goal

pub returns : goal.returns
unfolding line_of
returns g c = c.put.ensures
