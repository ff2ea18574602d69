use Rattle.tv_run_tests.proofs.StoppedLemmas.{goes_on}
use Rattle.tv_run_tests.proofs.going_on.stopped.Goals as goal

pub returns-in-Err : goal.returns-in-Err
returns-in-Err g c = goes_on _ _ _ _ _ _ _ (c.in-Err.ensures _ c.requires.1)
