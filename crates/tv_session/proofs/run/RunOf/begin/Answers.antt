use Rattle.std.proofs.Common.{refl, subst, sym, ◌∙◌}
use Rattle.tv_machine.specs.Session.Start.{closed}
use Rattle.tv_session.specs.Running.{IsRun}
use Rattle.tv_session.proofs.MarkedLemmas.{marked-same}
use Rattle.tv_session.proofs.StartLemmas.{started-there}
use Rattle.tv_session.proofs.run.RunOf.begin.Goals as goal

pub returns-in-Some : goal.returns-in-Some
returns-in-Some g c =
    let d = c.args.desc.now in
    subst (λ t. IsRun g.V.View.meaning d t c.open_dialog.new.self) (sym (started-there d c.in-Some.place d.start (sym c.in-Some.is ∙ c.start_place.ensures.is)))
    (c.open_dialog.ensures (closed d) (closed d) (c.requires, marked-same d (closed d) c.args.self.now.damage) refl).0
