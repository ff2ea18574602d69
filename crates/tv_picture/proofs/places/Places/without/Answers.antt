use Rattle.tv_picture.proofs.BitLemmas.{left_bits}
use Rattle.tv_picture.proofs.places.Places.without.Goals as goal

pub returns : goal.returns
returns c = λ k. left_bits c.args.self.bits c.args.other.bits k
