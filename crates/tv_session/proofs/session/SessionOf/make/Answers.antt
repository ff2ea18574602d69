use Rattle.std.proofs.Common.{ap, subst, sym, ◌∙◌}
use Rattle.tv_window.specs.Desk.{AreLawfulWindows}
use Rattle.tv_dialogs.specs.Bodies.{AreFreshBodies}
use Rattle.tv_dialogs.specs.Dialogs.{AreDialogs}
use Rattle.tv_machine.specs.Dialog.Sound.{HasSoundDialogs}
use Rattle.tv_machine.specs.Session.Start.{closed}
use Rattle.tv_menu.specs.Bar.{IsBarOf}
use Rattle.tv_menu.specs.Lawful.{IsLawfulScreen}
use Rattle.tv_menu.specs.Line.{IsStatusLineOf}
use Rattle.tv_model.specs.Description.Numbers.{natural}
use Rattle.tv_session.proofs.StartLemmas.{fresh_bodies, fresh_windows}
use Rattle.tv_session.proofs.session.SessionOf.make.Goals as goal

pub new-requires-2-clause-fresh : goal.new-requires-2-clause-fresh
new-requires-2-clause-fresh g c =
    subst (λ d. AreFreshBodies g.V.View.meaning d.dialogs c.args.bodies.items) (sym c.desc-desc.ensures.value)
    (fresh_bodies g.V.View.meaning c.args.checked c.args.windows.items c.args.bodies.items c.requires)

pub start-requires : goal.start-requires
start-requires g c =
    let lent = c.desc-desc.ensures.value in
    let look = g.V.View.meaning in
    record {
      sound = subst HasSoundDialogs lent c.desc-desc.ensures.sound_dialogs;
      lawful = subst (λ d. AreLawfulWindows d.windows) lent c.parts_are_lawful.ensures.windows;
      size = subst (λ d. IsLawfulScreen d.width d.height) lent c.parts_are_lawful.ensures.screen;
      windows_of = fresh_windows look c.args.checked c.args.windows.items c.args.bodies.items c.requires;
      dialogs_of = subst (λ d. AreDialogs look d (closed d) c.in-Ok-new.dialogs) lent c.in-Ok-new.ensures.dialogs;
      bar = subst (λ d. IsBarOf d c.in-Ok.parts.bar) lent c.in-Ok.ensures.bar;
      none_open = c.in-Ok.ensures.closed;
      line = subst (λ d. IsStatusLineOf d c.in-Ok.parts.line) lent c.in-Ok.ensures.line;
      width = c.in-Ok.ensures.screen.0 ∙ ap (λ d. natural d.width) lent;
      height = c.in-Ok.ensures.screen.1 ∙ ap (λ d. natural d.height) lent;
      log = c.in-Ok.ensures.log;
    }
