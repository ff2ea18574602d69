use Rattle.std.proofs.Common.{◌≡◌, sym, ap}
use Rattle.tv_lang.proofs.LongerLemmas.{with_view}
use Rattle.tv_lang.proofs.stage.with_view.Goals as goal

pub returns : goal.returns
returns c =
    let same : c.deref_mut.result.now ≡ c.args.dialog = cc (c.deref_mut.ensures.value, c.dialog.view_is) in
    λ desc. with_view desc c.args.dialog _ c.args.panes c.in-Some.panes c.args.view (sym c.if-not-is_view.ensures) (sym c.in-Some.ensures) (ap (λ d. d.node) same) (cc (c.in_ok-push.ensures.ok, same)) (ap (λ d. d.rules) same)
