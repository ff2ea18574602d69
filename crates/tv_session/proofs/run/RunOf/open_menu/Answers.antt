use Rattle.std.proofs.Common.{refl, sym, ◌∙◌}
use Rattle.tv_machine.specs.Session.Commands.{open_first}
use Rattle.tv_session.proofs.CommandLemmas.{first_aside}
use Rattle.tv_session.proofs.RunningLemmas.{run_menu}
use Rattle.tv_session.proofs.MarkedLemmas.{marked-aside}
use Rattle.tv_session.proofs.run.RunOf.open_menu.Goals as goal

pub returns : goal.returns
returns g c = λ d since s w closed.
    let a = w.0 in
    let aside = first_aside d.menus s in
    let stands =
    run_menu g.V.View.meaning d s (open_first d.menus s) c.args.self.now _ a.stands refl refl (c.open_first.ensures.stays d a.stands.bar)
    (c.open_first.ensures.opened d s a.stands.bar a.stands.menu) aside.windows aside.dialog aside.saved aside.overwriting
    (a.stands.over ∙ sym aside.over) (aside.frame ∙ a.stands.frame) (a.stands.log ∙ sym aside.log) in
    (stands, marked-aside d since s (open_first d.menus s) c.args.self.now.damage w.1 aside.dialog aside.overwriting aside.windows)
