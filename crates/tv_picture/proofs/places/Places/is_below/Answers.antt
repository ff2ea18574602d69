use Rattle.std.proofs.Common.{◌/◌, ◌^◌}
use Rattle.std.proofs.lemmas.Bool.{eqb-true, eq-eqb}
use Rattle.tv_picture.proofs.BitLemmas.{none_above, none_left}
use Rattle.tv_picture.proofs.places.Places.is_below.Goals as goal

pub returns : goal.returns
returns c = (
  (λ e k above has. none_above c.args.self.bits c.args.place k (eqb-true (c.args.self.bits / 2 ^ c.args.place) 0 e) above has),
  (λ never. eq-eqb (c.args.self.bits / 2 ^ c.args.place) 0 (none_left c.args.self.bits c.args.place never)),
)
