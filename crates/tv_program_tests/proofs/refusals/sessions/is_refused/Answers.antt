use Rattle.tv_program_tests.proofs.StreamLemmas.{goes_on}
use Rattle.tv_program_tests.proofs.refusals.sessions.is_refused.Goals as goal

pub returns-in-Ok : goal.returns-in-Ok
returns-in-Ok g c = goes_on _ _ _ _ _ _ _ (c.in-Ok.ensures _ c.requires.1)

pub returns-in-Err-NoMemory : goal.returns-in-Err-NoMemory
returns-in-Err-NoMemory g c = goes_on _ _ _ _ _ _ _ (c.in-Err-NoMemory.ensures _ c.requires.1)
