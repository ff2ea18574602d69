use Rattle.tv_machine.specs.Run.{Session}
use Rattle.tv_session.specs.Session.{StandsFor}
use Rattle.tv_run_tests.proofs.dragging.expect_moves.Given as goal

abbrev pub invariant-loop-event : goal.invariant-loop-event
invariant-loop-event g l = (s : Session) × StandsFor g.V.View.meaning l.session s
