use Rattle.std.proofs.Common.{rules, subst}
use Rattle.std.proofs.lemmas.Bool.Decides.{same_from_decides}
use Rattle.tv_valid.specs.Domain.{IsViableText}
use Rattle.tv_valid.specs.Deciding.{viable}
use Rattle.tv_valid.proofs.DecidingLemmas.{viable_law}
use Rattle.tv_valid.proofs.Beginnings.{viable_take}
use Rattle.tv_valid.proofs.domain.Domain.viable.Goals as goal

pub returns-then-fits-clause-beginnings : goal.returns-then-fits-clause-beginnings
returns-then-fits-clause-beginnings c holds k =
    viable_take c.args.self.now c.args.text.now k (subst (IsViableText c.args.self.now) c.as_slice-chars.ensures.value (c.fits.ensures.0 c.if-fits.true, c.may_become.ensures.0 holds))

pub returns-then-fits-clause-computed : goal.returns-then-fits-clause-computed
returns-then-fits-clause-computed c = same_from_decides c.may_become.result (viable c.args.self.now c.args.text.now) (search rules) (viable_law c.args.self.now c.args.text.now)
