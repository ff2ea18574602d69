use Rattle.tv_play.proofs.TapedLemmas.{heard-sayable}
use Rattle.tv_play.proofs.edge.heard_can_be_said.Goals as goal

pub returns : goal.returns
returns c = heard-sayable
