use Rattle.std.proofs.Common.{None, refl, subst, sym, ◌∙◌}
use Rattle.tv_machine.specs.Session.Menu.{close_menu}
use Rattle.tv_machine.specs.Session.Step.{with_empty_log}
use Rattle.tv_session.specs.Running.{IsRunSince}
use Rattle.tv_session.proofs.GivingLemmas.{given-refused, given-taken, is-taken, shut-awake}
use Rattle.tv_session.proofs.MarkedLemmas.{marked-aside, marked-same}
use Rattle.tv_session.proofs.RunningLemmas.{cleared, woken}
use Rattle.tv_session.proofs.run.RunOf.give.Goals as goal

pub command-requires : goal.command-requires
command-requires g c =
    let look = g.V.View.meaning in
    let d = c.args.desc.now in
    let s = c.requires.fit.0 in
    let r = c.requires.fit.1 in
    let run = record c.args.self.now { log = c.clear.new.self; damage = c.clear-2.new.self } in
    let takes = sym (c.takes-takes.ensures d s c.requires.sound r c.requires.fit.2) ∙ c.if-takes.true in
    let taken = is-taken d s c.args.command.0 takes in
    let awake = woken look d s c.args.self.now run r refl refl refl refl refl c.clear.ensures c.requires.fit.2 c.requires.sound c.requires.size taken.over None taken.free in
    record { awake = (close_menu (with_empty_log s), shut-awake look d (with_empty_log s) run c.close.new.self awake (c.close.ensures.stays d awake.stands.bar) c.close.ensures.shut, taken.loose) }

pub returns-then-takes-clause-stands : goal.returns-then-takes-clause-stands
returns-then-takes-clause-stands g c = λ s r fit.
    let look = g.V.View.meaning in
    let d = c.args.desc.now in
    let run = record c.args.self.now { log = c.clear.new.self; damage = c.clear-2.new.self } in
    let takes = sym (c.takes-takes.ensures d s c.requires.sound r fit) ∙ c.if-takes.true in
    let taken = is-taken d s c.args.command.0 takes in
    let awake = woken look d s c.args.self.now run r refl refl refl refl refl c.clear.ensures fit c.requires.sound c.requires.size taken.over None taken.free in
    let shut = shut-awake look d (with_empty_log s) run c.close.new.self awake (c.close.ensures.stays d awake.stands.bar) c.close.ensures.shut in
    subst (λ t. IsRunSince look d s t c.command.new.self) (sym (given-taken d s c.args.command.0 takes))
    (c.command.ensures s (close_menu (with_empty_log s)) (shut, marked-aside d s s (close_menu (with_empty_log s)) run.damage (marked-same d s run.damage) refl refl refl) refl taken.loose)

pub returns-else-takes-clause-stands : goal.returns-else-takes-clause-stands
returns-else-takes-clause-stands g c = λ s r fit.
    let look = g.V.View.meaning in
    let d = c.args.desc.now in
    let run = record c.args.self.now { log = c.clear.new.self; damage = c.clear-2.new.self } in
    let refused = sym (c.takes-takes.ensures d s c.requires.sound r fit) ∙ c.if-takes.false in
    subst (λ t. IsRunSince look d s t run) (sym (given-refused d s c.args.command.0 refused))
    (cleared look d s c.args.self.now run r refl refl refl refl refl c.clear.ensures, marked-aside d s s (with_empty_log s) run.damage (marked-same d s run.damage) refl refl refl)
