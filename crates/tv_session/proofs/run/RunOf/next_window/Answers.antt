use Rattle.std.proofs.Common.{refl}
use Rattle.std.specs.Prelude.{reverse}
use Rattle.tv_machine.specs.Session.Commands.{last_first}
use Rattle.tv_session.proofs.RunningLemmas.{run_windows}
use Rattle.tv_session.proofs.MarkedLemmas.{marked-windows}
use Rattle.tv_session.proofs.run.RunOf.next_window.Goals as goal

pub returns : goal.returns
returns g c = λ d since s w.
    let a = w.0 in
    let stands =
    run_windows g.V.View.meaning d s (record s { windows = last_first (reverse s.windows) }) c.args.self.now _ a.stands
    (c.next.ensures.desk d s.windows a.stands.desk) refl refl refl refl refl refl a.stands.over a.stands.frame a.stands.log in
    (stands, marked-windows d since s (record s { windows = last_first (reverse s.windows) }) c.args.self.now.damage c.next.new.damage w.1 c.next.ensures.grown.kept (c.next.ensures.damage d s.windows a.stands.desk) refl refl)
