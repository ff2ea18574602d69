use Rattle.std.proofs.Common.{◌≡◌, sym, ap}
use Rattle.tv_lang.proofs.LongerLemmas.{with_text}
use Rattle.tv_lang.proofs.stage.with_text.Goals as goal

pub returns : goal.returns
returns c =
    let same : c.deref_mut.result.now ≡ c.args.window = cc (c.deref_mut.ensures.value, c.window.view_is) in
    λ desc. with_text desc c.args.window _ c.args.view (sym c.if-not-is_text.ensures) (ap (λ w. w.node) same) (cc (c.in_ok-push.ensures.ok, same))
