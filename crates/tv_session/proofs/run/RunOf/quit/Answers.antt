use Rattle.std.proofs.Common.{true, refl, ap, ◌∙◌, ◌++◌, ◌∷◌, []}
use Rattle.tv_machine.specs.Session.Commands.{with_line_logged}
use Rattle.tv_model.specs.declared.log.LogLine.TheVariants.{Quit as QuitLine}
use Rattle.tv_session.proofs.RunningLemmas.{run_windows, short_log}
use Rattle.tv_session.proofs.MarkedLemmas.{marked-aside}
use Rattle.tv_session.proofs.run.RunOf.quit.Goals as goal

pub returns : goal.returns
returns g c = λ d since s w.
    let a = w.0 in
    let stands =
    run_windows g.V.View.meaning d s (with_line_logged QuitLine (record s { is_over = true })) c.args.self.now _ a.stands a.stands.desk refl refl refl refl refl refl refl a.stands.frame
    (c.note.ensures (short_log g.V.View.meaning d s c.args.self.now a) ∙ ap (λ ls. ls ++ QuitLine ∷ []) a.stands.log) in
    (stands, marked-aside d since s (with_line_logged QuitLine (record s { is_over = true })) c.args.self.now.damage w.1 refl refl refl)
