use Rattle.std.proofs.Common.{refl, ap, ◌∙◌}
use Rattle.tv_machine.specs.Session.Step.{with_empty_log}
use Rattle.tv_session.proofs.FitLemmas.{emptied_fit}
use Rattle.tv_session.proofs.RunningLemmas.{run_windows}
use Rattle.tv_session.proofs.session.SessionOf.take_log.Goals as goal

pub returns : goal.returns
returns g c = (
  (
    refl,
    λ _. tt,
    record {
      runs = λ s r. record {
        desc = r.desc;
        run = run_windows g.V.View.meaning s.desc s.state (with_empty_log s.state) c.args.self.now.run _ r.run r.run.desk refl refl refl refl refl refl r.run.over r.run.frame (ap (λ log. log.items) c.swap.ensures.y_after ∙ c.clear.ensures);
        line = r.line;
        fit = emptied_fit s.desc s.state r.fit;
        screen = record { width = r.screen.width; height = r.screen.height; cells = r.screen.cells };
      };
      repainted = refl;
    },
  ),
  record { lines = λ s r. c.as_slice.ensures.value ∙ ap (λ log. log.items) c.swap.ensures.x_after ∙ r.run.log; none_left = tt },
)
