use Rattle.tv_picture.proofs.BitLemmas.{left_bits}
use Rattle.tv_reach.proofs.mask.Mask.without.Goals as goal

pub returns : goal.returns
returns c = λ k. left_bits c.args.self.bits c.args.other.bits k
