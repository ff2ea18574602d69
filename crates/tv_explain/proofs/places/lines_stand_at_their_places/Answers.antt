use Rattle.tv_explain.proofs.PlaceLemmas.{is_placed}
use Rattle.tv_explain.proofs.places.lines_stand_at_their_places.Goals as goal

pub returns : goal.returns
returns c = λ text spelled line low high. is_placed text c.args._desc.now spelled line low high
