use Rattle.std.proofs.Common.{None, refl, subst, sym}
use Rattle.tv_cells.specs.Layers.{Shows}
use Rattle.tv_cells.specs.Picture.{IsAlike}
use Rattle.tv_laws.proofs.RunLemmas.{start-fit}
use Rattle.tv_machine.specs.Screen.Layers.{layers_of}
use Rattle.tv_machine.specs.Session.Start.{closed, start}
use Rattle.tv_session.specs.Running.{IsAwake, IsRun}
use Rattle.tv_session.proofs.ScreenLemmas.{shown_first}
use Rattle.tv_session.proofs.StartLemmas.{can-start, first_awake}
use Rattle.tv_session.proofs.session.SessionOf.start.Goals as goal

pub begin-requires : goal.begin-requires
begin-requires g c =
    let r = c.requires in
    let d = c.args.checked in
    subst (λ x. IsAwake g.V.View.meaning x (closed x) (record { desk = c.new.result; dialogs = c.args.dialogs; bar = c.args.parts.bar; frame = None; is_over = _; log = c.args.parts.log; colours = c.new-2.result; damage = c.new-3.result }))
    (sym c.desc-desc.ensures.value)
    (first_awake g.V.View.meaning d _ r.sound r.size (c.new.ensures.desk d r.lawful r.windows_of) r.dialogs_of r.bar r.none_open refl refl r.log)

pub paint-requires : goal.paint-requires
paint-requires g c =
    (start c.desc-desc.result.now, can-start g.V.View.meaning c.args.checked c.desc-desc.result.now c.args.parts c.args.windows.items c.args.dialogs c.begin.new.self c.desc-desc.ensures.value c.requires c.begin.ensures)

pub returns-clause-stands : goal.returns-clause-stands
returns-clause-stands g c =
    let r = c.requires in
    let d = c.args.checked in
    let lent = c.desc-desc.ensures.value in
    let look = g.V.View.meaning in
    let can = can-start look d c.desc-desc.result.now c.args.parts c.args.windows.items c.args.dialogs c.begin.new.self lent r c.begin.ensures in
    record {
      desc = refl;
      run = subst (λ x. IsRun look x (start x) c.begin.new.self) lent c.begin.ensures;
      line = r.line;
      fit = start-fit d r.sound;
      screen = shown_first d c.desc-desc.result.now (start d) c.args.parts.screen c.paint.new.screen lent r.width r.height
          (subst (λ x. IsAlike c.args.parts.screen c.paint.new.screen × Shows (layers_of c.desc-desc.result.now (start x)) c.paint.new.screen) lent (c.paint.ensures (start c.desc-desc.result.now) can));
    }
