use Rattle.tv_answers.proofs.TypedRunLemmas.{log_is_read}
use Rattle.tv_answers.proofs.laws.log_is_read.Goals as goal

pub returns : goal.returns
returns c = log_is_read c.args._desc.now c.requires.spelled c.requires.sound
