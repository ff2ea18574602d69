use Rattle.tv_reach.proofs.HiddenLemmas.{hidden-texts-stay}
use Rattle.tv_reach.proofs.reached.texts_move.Goals as goal

pub returns : goal.returns
returns c = hidden-texts-stay c.args._dialog.now c.requires.sound
