use Rattle.std.proofs.Common.{◌≡◌, map, sym, subst, ◌∙◌}
use Rattle.std.specs.Prelude.{IfOk, option_copied}
use Rattle.std.proofs.lemmas.Result.{IfOk-weaker}
use Rattle.tv_model.specs.Faults.{view_has}
use Rattle.tv_model.specs.Faults.Domains.{has_no_text, starts_badly}
use Rattle.tv_model.specs.Faults.Each.{each_after}
use Rattle.tv_faults.proofs.JudgedStartLemmas.{judged_starts}
use Rattle.tv_faults.proofs.judged.faulty_views.Goals as goal

pub returns-in-EmptyDomain : goal.returns-in-EmptyDomain
returns-in-EmptyDomain c =
    let body = c.args.body.now in let views = body.views.now in
    subst (λ kind. IfOk c.empty_domains.result (λ faulty. faulty.items ≡ each_after (view_has kind body.frame.now body.ends (option_copied body.sharing) views) views)) (sym c.in-EmptyDomain.is)
    (IfOk-weaker c.empty_domains.result (λ faulty. faulty.items ≡ map (λ start. start.empty_domain) body.starts.now) (λ faulty. faulty.items ≡ each_after (λ before view. has_no_text view.kind) views)
    (λ faulty found. found ∙ judged_starts (λ start. start.empty_domain) body.starts.now views body.judged) c.empty_domains.ensures)

pub returns-in-BadStart : goal.returns-in-BadStart
returns-in-BadStart c =
    let body = c.args.body.now in let views = body.views.now in
    subst (λ kind. IfOk c.bad_starts.result (λ faulty. faulty.items ≡ each_after (view_has kind body.frame.now body.ends (option_copied body.sharing) views) views)) (sym c.in-BadStart.is)
    (IfOk-weaker c.bad_starts.result (λ faulty. faulty.items ≡ map (λ start. start.bad_start) body.starts.now) (λ faulty. faulty.items ≡ each_after (λ before view. starts_badly view.kind) views)
    (λ faulty found. found ∙ judged_starts (λ start. start.bad_start) body.starts.now views body.judged) c.bad_starts.ensures)
