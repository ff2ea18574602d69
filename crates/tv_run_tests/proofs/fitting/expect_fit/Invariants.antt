use Rattle.std.proofs.Common.{take}
use Rattle.tv_run_tests.specs.Fitting.{FitsViews}
use Rattle.tv_run_tests.proofs.fitting.expect_fit.Given as goal

abbrev pub invariant-loop-view : goal.invariant-loop-view
invariant-loop-view l = FitsViews l.values (take l.view-index l.views)
