use Rattle.tv_picture.proofs.BitLemmas.{edge_bits}
use Rattle.tv_picture.proofs.places.Places.edges.Goals as goal

pub returns : goal.returns
returns c = λ k. edge_bits c.args.self.bits k
