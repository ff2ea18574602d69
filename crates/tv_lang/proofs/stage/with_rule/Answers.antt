use Rattle.std.proofs.Common.{◌≡◌, ap}
use Rattle.tv_lang.proofs.LongerLemmas.{with_rule}
use Rattle.tv_lang.proofs.stage.with_rule.Goals as goal

pub returns : goal.returns
returns c =
    let same : c.deref_mut.result.now ≡ c.args.dialog = cc (c.deref_mut.ensures.value, c.dialog.view_is) in
    λ desc. with_rule desc c.args.dialog _ c.args.rule (ap (λ d. d.node) same) (ap (λ d. d.views) same) (cc (c.in_ok-push.ensures.ok, same))
