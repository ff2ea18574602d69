use Rattle.std.proofs.Common.{arith, refl, subst, All}
use Rattle.std.proofs.lemmas.List.{take_all}
use Rattle.std.proofs.lemmas.List.Elements.{All-more}
use Rattle.tv_app.specs.Setting.{HasSafeValue}
use Rattle.tv_app.proofs.setting.are_safe.Goals as goal

pub loop-view-preserved : goal.loop-view-preserved
loop-view-preserved c =
    All-more (HasSafeValue c.args.values.now) c.args.views.now c.loop-view.view-index c.view-item.result (omega arith) c.loop-view.invariant
    (subst (HasSafeValue c.args.values.now) c.view-item.is (c.in_ok-is_safe.ensures.0 c.if-not-branch.false))

pub returns : goal.returns
returns c = ((λ e. subst (All (HasSafeValue c.args.values.now)) (take_all c.loop-view.view-index c.args.views.now (omega arith)) c.loop-view.invariant), (λ all. refl))
