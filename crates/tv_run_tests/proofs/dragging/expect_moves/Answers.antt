use Rattle.tv_run_tests.proofs.dragging.expect_moves.Goals as goal

pub loop-event-preserved : goal.loop-event-preserved
loop-event-preserved g c = (_, c.step.ensures.stands c.loop-event.invariant.0 c.loop-event.invariant.1)
