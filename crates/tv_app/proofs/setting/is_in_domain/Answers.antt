use Rattle.std.proofs.Common.{subst}
use Rattle.tv_valid.specs.Domain.{InDomain}
use Rattle.tv_valid.proofs.AskingLemmas.{only_domain}
use Rattle.tv_app.proofs.setting.is_in_domain.Goals as goal

pub returns-in-Ok : goal.returns-in-Ok
returns-in-Ok c =
    let domain = c.in-Ok.domain in
    let is = c.in-Ok.ensures.ok.0 in (
      (λ e. (domain, is, c.accepts.ensures.accepted.0 e)),
      (λ x. c.accepts.ensures.accepted.1 (subst (λ d. InDomain d c.args.text.now) (only_domain c.args.spec.now x.0 domain x.1 is) x.2)),
    )
