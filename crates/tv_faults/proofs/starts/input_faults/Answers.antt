use Rattle.std.proofs.Common.{◌≡◌, subst}
use Rattle.std.specs.Prelude.{IfNone, IfSome, IsTrue, Some, false}
use Rattle.tv_valid.specs.Asking.{domain_of}
use Rattle.tv_valid.specs.Deciding.{has_text}
use Rattle.tv_model.specs.Faults.Domains.{any_text}
use Rattle.tv_faults.proofs.StartTextLemmas.{with_domain, without_domain}
use Rattle.tv_faults.proofs.starts.input_faults.Goals as goal

pub returns-in-Some : goal.returns-in-Some
returns-in-Some c =
    with_domain c.args.input.now c.in-Some.domain c.is_viable.result
    (subst (λ found. IfSome found (λ domain. (domain_of c.args.input.now.spec ≡ Some domain) × IsTrue (has_text domain))) c.in-Some.is (c.in_ok-domain.ensures {u = tt}).some)
    c.is_viable.ensures

pub returns-in-None : goal.returns-in-None
returns-in-None c =
    without_domain c.args.input.now (subst (λ found. IfNone found (any_text c.args.input.now.spec ≡ false)) c.in-None.is (c.in_ok-domain.ensures {u = tt}).none)
