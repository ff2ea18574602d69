use Rattle.tv_app.specs.Running.{Runs, Session}
use Rattle.tv_run_tests.proofs.sheets.expect_acts.Given as goal

-- the application stands for some run
abbrev pub invariant-loop-place : goal.invariant-loop-place
invariant-loop-place l = (s : Session) × Runs l.app s
