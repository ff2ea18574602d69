use Rattle.std.proofs.Common.{rules}
use Rattle.tv_picture.proofs.BitLemmas.{none_between, next_is_set}
use Rattle.tv_picture.proofs.places.Places.first_from.Goals as goal

pub returns-clause-below : goal.returns-clause-below
returns-clause-below c = λ k above low set. none_between c.args.self.bits c.args.place k (search (rules, c.well_formed)) above low set

pub returns-clause-here : goal.returns-clause-here
returns-clause-here c = λ low. next_is_set c.args.self.bits c.args.place (search (rules, c.well_formed)) low
