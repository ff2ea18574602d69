use Rattle.tv_script.proofs.TapeLemmas.{tapes}
use Rattle.tv_script.proofs.tape.tapes_are_scripts.Goals as goal

pub returns : goal.returns
returns c = tapes
