use Rattle.std.proofs.Common.{refl, subst, sym, ◌∙◌}
use Rattle.tv_machine.specs.Session.Laid.{laid_in_dialog, laid_in_windows}
use Rattle.tv_session.specs.Running.{IsRunSince}
use Rattle.tv_session.proofs.LaidLemmas.{laid-beside, laid-in-open, some-open, undamaged}
use Rattle.tv_session.proofs.MarkedLemmas.{marked-dialog, marked-same, marked-windows}
use Rattle.tv_session.proofs.RunningLemmas.{run_dialogs, run_windows}
use Rattle.tv_session.proofs.run.RunOf.lay_below.Goals as goal

pub returns-then-has_open : goal.returns-then-has_open
returns-then-has_open g c = λ s r fit.
    let look = g.V.View.meaning in
    let d = c.args.desc.now in
    let i = c.args.id in
    let sheet = c.args.sheet in
    let here = sym (c.has_open.ensures s (undamaged look d s c.args.self.now c.clear.new.self r)) ∙ c.if-has_open.true in
    let o = some-open d i s here in
    subst (λ t. IsRunSince look d s t (record c.args.self.now { dialogs = c.lay.new.self; damage = c.lay.new.damage })) (sym (laid-in-open d i s sheet o.0 o.1 here)) (
      run_dialogs look d s (laid_in_dialog o.0 sheet s) c.args.self.now _ r (c.lay.ensures.dialogs d s o.0 r.dialogs o.1) refl refl refl refl r.over r.frame r.log,
      marked-dialog d s s (laid_in_dialog o.0 sheet s) c.clear.new.self c.lay.new.damage (marked-same d s c.clear.new.self) c.lay.ensures.kept
          (c.lay.ensures.damage d s o.0 (record { sound = c.requires; fit = fit; are = r.dialogs }) o.1) refl,
    )

pub returns-else-has_open : goal.returns-else-has_open
returns-else-has_open g c = λ s r fit.
    let look = g.V.View.meaning in
    let d = c.args.desc.now in
    let i = c.args.id in
    let sheet = c.args.sheet in
    let other = sym (c.has_open.ensures s (undamaged look d s c.args.self.now c.clear.new.self r)) ∙ c.if-has_open.false in
    let lay = c.lay-else-has_open in
    subst (λ t. IsRunSince look d s t (record c.args.self.now { desk = lay.new.self; damage = lay.new.damage })) (sym (laid-beside d i s sheet other)) (
      run_windows look d s (laid_in_windows i sheet s) c.args.self.now _ r (lay.ensures.desk d s.windows r.desk) refl refl refl refl refl refl r.over r.frame r.log,
      marked-windows d s s (laid_in_windows i sheet s) c.clear.new.self lay.new.damage (marked-same d s c.clear.new.self) lay.ensures.grown.kept (lay.ensures.damage d s.windows r.desk) refl refl,
    )
