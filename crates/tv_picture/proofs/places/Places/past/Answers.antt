use Rattle.tv_picture.proofs.BitLemmas.{shifted_bits}
use Rattle.tv_picture.proofs.places.Places.past.Goals as goal

pub returns : goal.returns
returns c = λ k. shifted_bits c.args.self.bits c.args.place k
