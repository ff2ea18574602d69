use Rattle.std.proofs.Common.{Some, ◌≤◌, ◌++◌, ◌∷◌, [], List, length, arith, refl, ap, subst, sym, ◌∙◌}
use Rattle.tv_model.specs.declared.log.LogLine.{LogLine}
use Rattle.tv_model.specs.declared.log.LogLine.TheVariants.{Moved}
use Rattle.tv_session.specs.Running.{IsRunSince, with_moved_line}
use Rattle.tv_session.proofs.MarkedLemmas.{marked-aside}
use Rattle.tv_session.proofs.RunningLemmas.{run_windows}
use Rattle.tv_session.proofs.run.RunOf.note_moved.Goals as goal

pub returns-in-Some : goal.returns-in-Some
returns-in-Some g c = λ since s w empty.
    let d = c.args.desc.now in
    let look = g.V.View.meaning in
    let corner = c.args.corner in
    let r = w.0 in
    let one = with_moved_line (Some c.in-Some.id) corner s in
    let few : length c.args.self.now.log.items ≤ 66 = subst (λ (ls : List LogLine). length ls ≤ 66) (sym (r.log ∙ empty)) (omega arith) in
    subst (λ x. IsRunSince look d since x (record c.args.self.now { log = c.note.new.log })) (sym (c.dragged_id.ensures s corner r ∙ ap (λ i. with_moved_line i corner s) c.in-Some.is)) (
      run_windows look d s one c.args.self.now _ r r.desk refl refl refl refl refl refl r.over r.frame (c.note.ensures few ∙ ap (λ ls. ls ++ Moved c.in-Some.id corner ∷ []) r.log),
      marked-aside d since s one c.args.self.now.damage w.1 refl refl refl,
    )

pub returns-in_default : goal.returns-in_default
returns-in_default g c = λ since s w empty.
    let d = c.args.desc.now in
    subst (λ x. IsRunSince g.V.View.meaning d since x c.args.self.now)
    (sym (c.dragged_id.ensures s c.args.corner w.0 ∙ ap (λ i. with_moved_line i c.args.corner s) c.in_default.is)) w
