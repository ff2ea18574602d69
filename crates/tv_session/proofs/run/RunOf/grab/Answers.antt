use Rattle.std.proofs.Common.{Some, refl, ap, sym}
use Rattle.tv_machine.specs.Session.Dragging.{grabbed}
use Rattle.tv_session.proofs.MarkedLemmas.{marked-aside}
use Rattle.tv_session.proofs.RunningLemmas.{run_windows}
use Rattle.tv_session.proofs.run.RunOf.grab.Goals as goal

pub returns : goal.returns
returns g c = λ d since s w.
    let r = w.0 in
    let t = grabbed c.args.corner c.args.point s in (
      run_windows g.V.View.meaning d s t c.args.self.now _ r r.desk refl refl refl refl refl refl r.over (ap Some (sym c.new.ensures)) r.log,
      marked-aside d since s t c.args.self.now.damage w.1 refl refl refl,
    )
