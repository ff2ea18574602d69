use Rattle.tv_view.specs.contracts.view.BoxDynViewView.TheImpl.{meaning-value}
use Rattle.tv_run_tests.proofs.FreshLemmas.{fresh_fits}
use Rattle.tv_run_tests.proofs.opening.with_values.Goals as goal

pub set-requires : goal.set-requires
set-requires g c =
    let look = (meaning-value (g.dyn-1.0, g.dyn-1.1)).it in
    fresh_fits look c.args.declared.now.node c.as_slice-views.result.now c.args.body (c.is_fresh.ensures.0 c.if-not-is_fresh.false)
    c.args.values.now c.in_ok-expect_fit.ensures
