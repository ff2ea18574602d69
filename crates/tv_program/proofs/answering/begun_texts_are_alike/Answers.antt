use Rattle.tv_program.proofs.BegunTextLemmas.{begun_alike}
use Rattle.tv_program.proofs.answering.begun_texts_are_alike.Goals as goal

pub returns : goal.returns
returns c = λ name e is spelled. begun_alike c.args._desc.now name e c.requires is spelled.lines
