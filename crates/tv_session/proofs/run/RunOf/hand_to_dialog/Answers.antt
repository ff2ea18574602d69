use Rattle.std.proofs.Common.{arith, refl, ap, sym, ◌∙◌, ◌++◌}
use Rattle.tv_machine.specs.Session.Step.{to_dialog}
use Rattle.tv_dialogs.specs.Dialogs.{log_of_last}
use Rattle.tv_dialogs.proofs.SessionLemmas.{step-aside}
use Rattle.tv_session.proofs.RunningLemmas.{no_lines, of_run, run_dialogs}
use Rattle.tv_session.proofs.MarkedLemmas.{marked-dialog}
use Rattle.tv_session.proofs.run.RunOf.hand_to_dialog.Goals as goal

-- nothing is logged before
pub move_log-requires : goal.move_log-requires
move_log-requires g c =
    let none = no_lines g.V.View.meaning c.args.desc.now c.requires.awake.0 c.args.self.now c.requires.awake.1 in
    omega (arith, none)

pub returns : goal.returns
returns g c = λ since s o w some given.
    let a = w.0 in
    let d = c.args.desc.now in
    let look = g.V.View.meaning in
    let aside = step-aside d o c.args.event.now s in
    let run = of_run look d s c.args.self.now a in
    let stands =
    run_dialogs look d s (to_dialog d o c.args.event.now s) c.args.self.now _ a.stands
    (c.move_log.ensures.dialogs d (to_dialog d o c.args.event.now s) (c.step.ensures.dialogs s o some given run)) refl refl
    aside.menu aside.windows (a.stands.over ∙ sym aside.over) (aside.frame ∙ a.stands.frame)
    (c.move_log.ensures.lines ∙ ap (λ ls. ls ++ log_of_last c.step.new.self) a.stands.log ∙ sym (c.step.ensures.log s o some run)) in
    (stands, marked-dialog d since s (to_dialog d o c.args.event.now s) c.args.self.now.damage c.step.new.damage w.1 c.step.ensures.kept (c.step.ensures.damage s o some given run) aside.windows)
