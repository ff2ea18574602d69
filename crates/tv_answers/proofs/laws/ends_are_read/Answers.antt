use Rattle.tv_answers.proofs.EndReadLemmas.{ends_are_read}
use Rattle.tv_answers.proofs.laws.ends_are_read.Goals as goal

pub returns : goal.returns
returns c = ends_are_read c.args._desc.now c.requires.spelled c.requires.sound
