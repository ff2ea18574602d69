use Rattle.tv_model.specs.Log.LogText.{line_of}
use Rattle.tv_files.proofs.telling.tell_no_memory.Goals as goal

pub returns-clause-told : goal.returns-clause-told
unfolding line_of
returns-clause-told g c = c.tell_last.ensures
