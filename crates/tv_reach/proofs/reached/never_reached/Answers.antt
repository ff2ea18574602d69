use Rattle.tv_reach.proofs.NeverLemmas.{never-reached}
use Rattle.tv_reach.proofs.reached.never_reached.Goals as goal

pub returns : goal.returns
returns c = never-reached c.args._desc.now c.requires.sound c.requires.rise
