use Rattle.std.proofs.Common.{refl, ap, subst, sym, ◌∙◌}
use Rattle.tv_machine.specs.Session.Desktop.{down_on_desktop, window_under}
use Rattle.tv_machine.specs.Session.Step.{dialog_with_hold}
use Rattle.tv_session.specs.Running.{IsRunSince}
use Rattle.tv_session.proofs.RunningLemmas.{run_windows, still}
use Rattle.tv_session.proofs.MarkedLemmas.{marked-same, marked-windows}
use Rattle.tv_session.proofs.run.RunOf.window_down.Goals as goal

pub command-requires : goal.command-requires
command-requires g c =
    let d = c.args.desc.now in
    let run = c.args.self.now in
    let s = c.requires.awake.0 in
    let hit = c.in-CloseMark.ensures in
    let same = still g.V.View.meaning d s s run c.down.new.self c.down.new.damage (hit.kept (λ e. cc)) (hit.unmarked (λ e. cc)) (c.requires.awake.1, marked-same d s run.damage) in
    record { awake = (s, same.0, ap dialog_with_hold c.requires.awake.2) }

pub returns-in-CloseMark : goal.returns-in-CloseMark
returns-in-CloseMark g c = λ since s w none menu.
    let d = c.args.desc.now in
    let look = g.V.View.meaning in
    let hit = c.in-CloseMark.ensures in
    let same = still look d since s c.args.self.now c.down.new.self c.down.new.damage (hit.kept (λ e. cc)) (hit.unmarked (λ e. cc)) w in
    subst (λ t. IsRunSince look d since t c.command.new.self) (sym (hit.mark d s w.0.stands.desk refl)) (c.command.ensures since s same menu (ap dialog_with_hold none))

pub returns-in-Grip : goal.returns-in-Grip
returns-in-Grip g c = λ since s w none menu.
    let d = c.args.desc.now in
    let look = g.V.View.meaning in
    let hit = c.in-Grip.ensures in
    let same = still look d since s c.args.self.now c.down.new.self c.down.new.damage (hit.kept (λ e. cc)) (hit.unmarked (λ e. cc)) w in
    subst (λ t. IsRunSince look d since t c.grab.new.self) (sym (hit.grip c.in-Grip.corner d s w.0.stands.desk refl)) (c.grab.ensures d since s (same.0.stands, same.1))

pub returns-in-Done : goal.returns-in-Done
returns-in-Done g c = λ since s w none menu.
    let a = w.0 in
    let d = c.args.desc.now in
    let done = c.in-Done.ensures.done d s a.stands.desk refl in
    let stands =
    run_windows g.V.View.meaning d s (down_on_desktop d (window_under d s c.args.point) c.args.point s) c.args.self.now _ a.stands done.0 refl refl
    (ap (λ x. x.menu) done.1) (ap (λ x. x.dialog) done.1) (ap (λ x. x.saved) done.1) (ap (λ x. x.overwriting) done.1)
    (a.stands.over ∙ sym (ap (λ x. x.is_over) done.1)) (ap (λ x. x.frame) done.1 ∙ a.stands.frame) (a.stands.log ∙ sym (ap (λ x. x.log) done.1)) in
    (stands, marked-windows d since s (down_on_desktop d (window_under d s c.args.point) c.args.point s) c.args.self.now.damage c.down.new.damage w.1 c.down.ensures.grown.kept (c.in-Done.ensures.damage d s a.stands.desk refl) (ap (λ x. x.dialog) done.1) (ap (λ x. x.overwriting) done.1))
