use Rattle.std.proofs.Common.{◌≡◌, arith, refl, ap, sym, ◌∙◌, ◌++◌, ◌∷◌, [], length, List, append_assoc}
use Rattle.tv_machine.specs.Session.Commands.{open_dialog}
use Rattle.tv_model.specs.declared.log.LogLine.{LogLine}
use Rattle.tv_model.specs.declared.log.LogLine.TheVariants as lines
use Rattle.tv_dialogs.specs.Dialogs.{log_of_last}
use Rattle.tv_dialogs.proofs.SessionLemmas.{open-aside}
use Rattle.tv_session.proofs.RunningLemmas.{empty_log, of_run, run_dialogs, short_log}
use Rattle.tv_session.proofs.MarkedLemmas.{marked-dialog}
use Rattle.tv_session.proofs.run.RunOf.open_dialog.Goals as goal

-- one line is logged before
pub move_log-requires : goal.move_log-requires
move_log-requires g c =
    let look = g.V.View.meaning in
    let s = c.requires.awake.0 in
    let a = c.requires.awake.1 in
    let noted = c.note.ensures (short_log look c.args.desc.now s c.args.self.now a) in
    let one : length c.note.new.log.items ≡ 1 =
    ap (λ (ls : List LogLine). length ls) (noted ∙ ap (λ ls. ls ++ lines.Open c.in-Some.dialog.now.node.id ∷ []) (empty_log look c.args.desc.now s c.args.self.now a)) in
    omega (arith, one)

pub returns : goal.returns
returns g c = λ since s w none.
    let a = w.0 in
    let d = c.args.desc.now in
    let look = g.V.View.meaning in
    let aside = open-aside d c.args.place s in
    let run = of_run look d s c.args.self.now a in
    let noted = c.note.ensures (short_log look d s c.args.self.now a) in
    let told = log_of_last c.open.new.self in
    let stands =
    run_dialogs look d s (open_dialog d c.args.place s) c.args.self.now _ a.stands
    (c.move_log.ensures.dialogs d (open_dialog d c.args.place s) (c.open.ensures.dialogs s run)) refl refl
    aside.menu aside.windows (a.stands.over ∙ sym aside.over) (aside.frame ∙ a.stands.frame)
    (c.move_log.ensures.lines ∙ ap (λ ls. ls ++ told) (noted ∙ ap (λ ls. ls ++ lines.Open c.in-Some.dialog.now.node.id ∷ []) a.stands.log)
    ∙ append_assoc s.log (lines.Open c.in-Some.dialog.now.node.id ∷ []) told
    ∙ sym (c.open.ensures.log s c.in-Some.dialog.now run (sym c.in-Some.ensures))) in
    (stands, marked-dialog d since s (open_dialog d c.args.place s) c.args.self.now.damage c.open.new.damage w.1 c.open.ensures.kept (c.open.ensures.damage s none run) aside.windows)
