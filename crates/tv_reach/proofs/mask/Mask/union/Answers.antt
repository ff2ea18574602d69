use Rattle.tv_picture.proofs.BitLemmas.{union_bits}
use Rattle.tv_reach.proofs.mask.Mask.union.Goals as goal

pub returns : goal.returns
returns c = λ k. union_bits c.args.self.bits c.args.other.bits k
