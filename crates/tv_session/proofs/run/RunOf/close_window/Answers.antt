use Rattle.std.proofs.Common.{◌≡◌, refl, ap, subst, sym, ◌∙◌, ◌++◌, ◌∷◌, []}
use Rattle.tv_machine.specs.Session.Commands.{close_front}
use Rattle.tv_model.specs.declared.log.LogLine.TheVariants.{Close}
use Rattle.tv_window.specs.Desk.{with_close_line}
use Rattle.tv_session.proofs.RunningLemmas.{run_windows, short_log}
use Rattle.tv_session.proofs.MarkedLemmas.{marked-windows}
use Rattle.tv_session.proofs.run.RunOf.close_window.Goals as goal

pub returns-in-Some : goal.returns-in-Some
returns-in-Some g c = λ d since s w.
    let a = w.0 in
    let closed = c.in-Some.ensures.line d s a.stands.desk in
    let stands =
    run_windows g.V.View.meaning d s (close_front s.windows s) c.args.self.now _ a.stands
    (c.close_front.ensures.desk d s a.stands.desk) refl refl (ap (λ x. x.menu) closed) (ap (λ x. x.dialog) closed) (ap (λ x. x.saved) closed)
    (ap (λ x. x.overwriting) closed) (a.stands.over ∙ sym (ap (λ x. x.is_over) closed)) (ap (λ x. x.frame) closed ∙ a.stands.frame)
    (c.note.ensures (short_log g.V.View.meaning d s c.args.self.now a) ∙ ap (λ ls. ls ++ Close c.in-Some.id ∷ []) a.stands.log ∙ sym (ap (λ x. x.log) closed)) in
    (stands, marked-windows d since s (close_front s.windows s) c.args.self.now.damage c.close_front.new.damage w.1 c.close_front.ensures.grown.kept (c.close_front.ensures.damage d s a.stands.desk) (ap (λ x. x.dialog) closed) (ap (λ x. x.overwriting) closed))

pub returns-in_default : goal.returns-in_default
returns-in_default g c = λ d since s w.
    let a = w.0 in
    let closed = subst (λ id. close_front s.windows s ≡ with_close_line id (record s { windows = (close_front s.windows s).windows })) c.in_default.is (c.close_front.ensures.line d s a.stands.desk) in
    let stands =
    run_windows g.V.View.meaning d s (close_front s.windows s) c.args.self.now _ a.stands
    (c.close_front.ensures.desk d s a.stands.desk) refl refl (ap (λ x. x.menu) closed) (ap (λ x. x.dialog) closed) (ap (λ x. x.saved) closed)
    (ap (λ x. x.overwriting) closed) (a.stands.over ∙ sym (ap (λ x. x.is_over) closed)) (ap (λ x. x.frame) closed ∙ a.stands.frame) (a.stands.log ∙ sym (ap (λ x. x.log) closed)) in
    (stands, marked-windows d since s (close_front s.windows s) c.args.self.now.damage c.close_front.new.damage w.1 c.close_front.ensures.grown.kept (c.close_front.ensures.damage d s a.stands.desk) (ap (λ x. x.dialog) closed) (ap (λ x. x.overwriting) closed))
