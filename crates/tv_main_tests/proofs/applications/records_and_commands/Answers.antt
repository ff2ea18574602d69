use Rattle.tv_main_tests.proofs.applications.records_and_commands.Goals as goal

-- the run goes on from its start
pub reopen-reopened-requires : goal.reopen-reopened-requires
reopen-reopened-requires g c = (_, c.step.ensures.goes_on _ c.in_ok-app.ensures.opened.2)
