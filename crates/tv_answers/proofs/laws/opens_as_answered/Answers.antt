use Rattle.tv_answers.proofs.OpeningLemmas.{open_as_answered}
use Rattle.tv_answers.proofs.laws.opens_as_answered.Goals as goal

pub returns : goal.returns
returns c = open_as_answered c.args._desc.now c.args._text.now c.requires.spelled
