use Rattle.tv_script.proofs.StreamLemmas.{cuts_decide_nothing}
use Rattle.tv_script.proofs.streaming.cuts_decide_nothing.Goals as goal

pub returns : goal.returns
returns c = cuts_decide_nothing
