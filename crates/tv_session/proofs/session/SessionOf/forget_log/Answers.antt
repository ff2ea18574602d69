use Rattle.std.proofs.Common.{refl}
use Rattle.tv_machine.specs.Session.Step.{with_empty_log}
use Rattle.tv_session.proofs.FitLemmas.{emptied_fit}
use Rattle.tv_session.proofs.RunningLemmas.{run_windows}
use Rattle.tv_session.proofs.session.SessionOf.forget_log.Goals as goal

pub returns-clause-quiet : goal.returns-clause-quiet
returns-clause-quiet g c = λ s r. record {
  desc = r.desc;
  run = run_windows g.V.View.meaning s.desc s.state (with_empty_log s.state) c.args.self.now.run _ r.run r.run.desk refl refl refl refl refl refl r.run.over r.run.frame c.clear.ensures;
  line = r.line;
  fit = emptied_fit s.desc s.state r.fit;
  screen = record { width = r.screen.width; height = r.screen.height; cells = r.screen.cells };
}
