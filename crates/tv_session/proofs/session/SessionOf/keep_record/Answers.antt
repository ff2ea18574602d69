use Rattle.std.proofs.Common.{refl}
use Rattle.tv_laws.proofs.RunLemmas.{records-fit}
use Rattle.tv_laws.specs.Runs.{with_saved}
use Rattle.tv_session.proofs.RunningLemmas.{run_dialogs}
use Rattle.tv_session.proofs.session.SessionOf.keep_record.Goals as goal

pub returns-clause-kept : goal.returns-clause-kept
returns-clause-kept g c = λ s r.
    let look = g.V.View.meaning in
    let t = with_saved c.args.place c.args.values s.state in
    record {
      desc = r.desc;
      run = run_dialogs look s.desc s.state t c.args.self.now.run _ r.run (c.keep_record.ensures.dialogs s.desc s.state r.run.dialogs) refl refl refl refl r.run.over r.run.frame r.run.log;
      line = r.line;
      fit = records-fit s.desc s.state c.args.place c.args.values r.fit (c.requires s r);
      screen = record { width = r.screen.width; height = r.screen.height; cells = r.screen.cells };
    }
