use Rattle.std.proofs.Common.{None, Some, refl, subst, sym, ◌∙◌}
use Rattle.tv_machine.specs.Session.Dragging.{placed}
use Rattle.tv_session.specs.Running.{IsRunSince}
use Rattle.tv_session.proofs.CommandLemmas.{none_is, some_is}
use Rattle.tv_session.proofs.MarkedLemmas.{marked-dialog, marked-windows}
use Rattle.tv_session.proofs.RunningLemmas.{run_dialogs, run_windows}
use Rattle.tv_session.proofs.run.RunOf.place.Goals as goal

pub returns-then-is_open : goal.returns-then-is_open
returns-then-is_open g c = λ d held since s a marked.
    let look = g.V.View.meaning in
    let r = a.stands in
    let corner = c.args.corner in
    let found = some_is s.dialog (sym (c.is_open.ensures d s r.dialogs) ∙ c.if-is_open.true) in
    let t = placed (Some found.0) corner s in
    let run = record c.args.self.now { dialogs = c.move_to.new.self; damage = c.move_to.new.damage } in
    subst (λ o. IsRunSince look d since (placed o corner s) run) (sym found.1) (
      run_dialogs look d s t c.args.self.now run r (c.move_to.ensures.dialogs d s found.0 r.dialogs found.1) refl refl refl refl r.over r.frame r.log,
      marked-dialog d since s t c.args.self.now.damage c.move_to.new.damage marked c.move_to.ensures.kept
          (c.move_to.ensures.damage d s found.0 (record { sound = a.sound; fit = a.fit; are = r.dialogs }) found.1) refl,
    )

pub returns-else-is_open : goal.returns-else-is_open
returns-else-is_open g c = λ d held since s a marked.
    let look = g.V.View.meaning in
    let r = a.stands in
    let corner = c.args.corner in
    let none = none_is s.dialog (sym (c.is_open.ensures d s r.dialogs) ∙ c.if-is_open.false) in
    let t = placed None corner s in
    let run = record c.args.self.now { desk = c.move_front.new.self; damage = c.move_front.new.damage } in
    subst (λ o. IsRunSince look d since (placed o corner s) run) (sym none) (
      run_windows look d s t c.args.self.now run r (c.move_front.ensures.desk d s.windows r.desk) refl refl refl refl refl refl r.over r.frame r.log,
      marked-windows d since s t c.args.self.now.damage c.move_front.new.damage marked c.move_front.ensures.grown.kept (c.move_front.ensures.damage d s.windows r.desk) refl refl,
    )
