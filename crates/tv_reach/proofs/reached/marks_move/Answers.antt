use Rattle.tv_reach.proofs.MoveLemmas.{events-move-one}
use Rattle.tv_reach.proofs.reached.marks_move.Goals as goal

pub returns : goal.returns
returns c = events-move-one c.args._dialog.now c.requires.sound
