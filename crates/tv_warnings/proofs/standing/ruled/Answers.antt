use Rattle.std.proofs.Common.{subst}
use Rattle.std.specs.Prelude.{IfSome}
use Rattle.tv_warnings.specs.Warned.{IsRuleOf}
use Rattle.tv_warnings.specs.Warned.StandsAt.{ruled}
use Rattle.tv_warnings.proofs.standing.ruled.Goals as goal

pub returns-in-Some : goal.returns-in-Some
returns-in-Some c =
    ruled c.args.id c.requires
    (subst (λ found. IfSome found (λ rules. IsRuleOf c.args.desc.now c.args.id rules.last.now.id)) c.in-Some.is c.in_ok-rules.ensures)
