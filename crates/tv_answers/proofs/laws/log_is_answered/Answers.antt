use Rattle.tv_answers.proofs.AgainLemmas.{end_again}
use Rattle.tv_answers.proofs.laws.log_is_answered.Goals as goal

pub returns : goal.returns
returns c = end_again c.args._desc.now c.requires.spelled c.requires.sound
