use Rattle.tv_script.proofs.ScriptLemmas.{says}
use Rattle.tv_script.proofs.streaming.judgements_are_right.Goals as goal

pub returns : goal.returns
returns c = says
