use Rattle.std.proofs.Common.{refl, ap, subst, sym, ◌∙◌, ◌++◌, ◌∷◌, []}
use Rattle.tv_machine.specs.Session.Commands.{with_line_logged}
use Rattle.tv_model.specs.declared.log.LogLine.TheVariants as lines
use Rattle.tv_session.specs.Running.{IsRunSince}
use Rattle.tv_session.proofs.CommandLemmas.{own_logged}
use Rattle.tv_session.proofs.RunningLemmas.{run_windows, short_log}
use Rattle.tv_session.proofs.MarkedLemmas.{marked-aside}
use Rattle.tv_session.proofs.run.RunOf.own_command.Goals as goal

pub returns-then-number-ge100 : goal.returns-then-number-ge100
returns-then-number-ge100 g c = λ since s w idle.
    let a = w.0 in
    let d = c.args.desc.now in
    subst (λ t. IsRunSince g.V.View.meaning d since t (record c.args.self.now { log = c.note.new.log })) (sym (own_logged d c.args.number _ s (sym c.opener_of.ensures ∙ c.in-None.is) c.if-number-ge100.true)) (
      (run_windows g.V.View.meaning d s (with_line_logged (lines.Command c.args.number) s) c.args.self.now _ a.stands a.stands.desk refl refl refl refl refl refl a.stands.over a.stands.frame
          (c.note.ensures (short_log g.V.View.meaning d s c.args.self.now a) ∙ ap (λ ls. ls ++ lines.Command c.args.number ∷ []) a.stands.log)),
      marked-aside d since s (with_line_logged (lines.Command c.args.number) s) c.args.self.now.damage w.1 refl refl refl,
    )
