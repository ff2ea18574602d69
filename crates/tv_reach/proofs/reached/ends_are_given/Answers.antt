use Rattle.tv_reach.proofs.GiverLemmas.{ends-are-given}
use Rattle.tv_reach.proofs.reached.ends_are_given.Goals as goal

pub returns : goal.returns
returns c = ends-are-given c.args._dialog.now c.requires.sound
