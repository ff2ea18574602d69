use Rattle.tv_answers.proofs.ReadScriptLemmas.{reads_typed}
use Rattle.tv_answers.proofs.laws.script_is_typed.Goals as goal

pub returns : goal.returns
returns c = reads_typed c.args._text.now
