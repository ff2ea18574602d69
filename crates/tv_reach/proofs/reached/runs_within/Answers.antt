use Rattle.tv_reach.proofs.WithinLemmas.{runs-within}
use Rattle.tv_reach.proofs.reached.runs_within.Goals as goal

pub returns : goal.returns
returns c = runs-within c.args._desc.now c.requires.sound
