use Rattle.std.proofs.Common.{arith, subst}
use Rattle.std.proofs.lemmas.List.{take_all}
use Rattle.std.proofs.lemmas.List.Elements.{All-more}
use Rattle.tv_view.specs.Calls.{IsFieldValue}
use Rattle.tv_run_tests.specs.Fitting.{FitsView, FitsViews}
use Rattle.tv_run_tests.proofs.fitting.expect_fit.Goals as goal

pub loop-view-preserved : goal.loop-view-preserved
loop-view-preserved c =
    let fits : FitsView c.args.values.now c.view-item.result = subst (IsFieldValue c.view-item.result.kind) c.value.ensures (c.in_ok-is_value.ensures c.if-not-branch.false) in
    All-more (FitsView c.args.values.now) c.args.views.now c.loop-view.view-index c.view-item.result (omega arith) c.loop-view.invariant
    (subst (FitsView c.args.values.now) c.view-item.is fits)

pub returns : goal.returns
returns c = subst (FitsViews c.args.values.now) (take_all c.loop-view.view-index c.args.views.now (omega arith)) c.loop-view.invariant
