use Rattle.tv_reach.proofs.MaskLemmas.{closed-holds}
use Rattle.tv_reach.proofs.reached.closed_holds.Goals as goal

pub returns : goal.returns
returns c = closed-holds c.args._dialog.now c.requires.sound
