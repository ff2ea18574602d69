use Rattle.std.proofs.Common.{ap, false, refl, subst, sym, true, ◌≡◌, ◌∙◌}
use Rattle.tv_cells.specs.Picture.{IsAlike}
use Rattle.tv_io.proofs.PenLemmas.{Puts-none}
use Rattle.tv_machine.specs.Run.{stepped}
use Rattle.tv_play.specs.Edge.{brought}
use Rattle.tv_play.specs.Ends.{reached}
use Rattle.tv_play.specs.Notes.{Renotes}
use Rattle.tv_play.specs.Refusals.{is_in_vain}
use Rattle.tv_play.specs.Shown.{KeepsScreen}
use Rattle.tv_play.proofs.ActionLemmas.{desc-reached}
use Rattle.tv_play.proofs.MonitorLemmas.{monitor-reached}
use Rattle.tv_play.proofs.ShownLemmas.{alike-size, keeps-in, shown-event, size-of}
use Rattle.tv_play.proofs.show.repaint.Goals as goal

pub is_in_vain-requires : goal.is_in_vain-requires
is_in_vain-requires g c =
    let there = c.requires.there in
    record { there = (there.0, there.1, size-of there.0 c.args.monitor.now there.2) }

pub paint-requires : goal.paint-requires
paint-requires g c =
    let there = c.requires.there in
    subst (λ q. IsAlike q c.screen-screen.result.now) (sym (c.note.ensures there.0 there.1 there.2).shown) (alike-size (c.screen-screen.ensures there.0 there.1) there.2)

pub returns-then-is_some-clause-shown : goal.returns-then-is_some-clause-shown
returns-then-is_some-clause-shown g c = λ colours s actions told from calm same stands keeps shown.
    let before = reached s actions in
    let e = brought s.desc told in
    let there : g.L.Stage.stands c.args.stage.now (stepped before e) = subst (λ x. g.L.Stage.stands c.args.stage.now (stepped before x)) same stands in
    let kept : KeepsScreen (g.L.Live.repaints c.args.stage.now) before (stepped before e) = subst (λ x. KeepsScreen (g.L.Live.repaints c.args.stage.now) before (stepped before x)) same keeps in
    let vain : c.is_in_vain.result ≡ is_in_vain before (stepped before e) e = c.is_in_vain.ensures before (stepped before e) there refl shown.taken kept ∙ ap (is_in_vain before (stepped before e)) same in
    let is = monitor-reached s c.requires.there.0 actions c.args.monitor.now c.requires.there.2 shown.taken.size shown.window in
    let noted = subst (λ d. Renotes g.T.Writer.seen d c.refusal_of-refusal.result c.args.monitor.now c.note.new.self c.args.pen.now c.note.new.pen) (desc-reached s actions) (c.note.ensures (stepped before e) there is) in
    shown-event s actions told calm c.find_cursor-cursor.result (c.screen-screen.ensures (stepped before e) there) c.find_cursor-cursor.ensures (keeps-in c.repainted-rects.ensures kept)
    shown.same shown.told shown.window shown.noted shown.taken (c.refusal_of-refusal.ensures before (stepped before e) e there vain) noted c.paint.ensures refl refl
    true (sym c.is_some.ensures ∙ c.if-is_some.true) c.ring.ensures.puts from shown

pub returns-else-is_some-clause-shown : goal.returns-else-is_some-clause-shown
returns-else-is_some-clause-shown g c = λ colours s actions told from calm same stands keeps shown.
    let before = reached s actions in
    let e = brought s.desc told in
    let there : g.L.Stage.stands c.args.stage.now (stepped before e) = subst (λ x. g.L.Stage.stands c.args.stage.now (stepped before x)) same stands in
    let kept : KeepsScreen (g.L.Live.repaints c.args.stage.now) before (stepped before e) = subst (λ x. KeepsScreen (g.L.Live.repaints c.args.stage.now) before (stepped before x)) same keeps in
    let vain : c.is_in_vain.result ≡ is_in_vain before (stepped before e) e = c.is_in_vain.ensures before (stepped before e) there refl shown.taken kept ∙ ap (is_in_vain before (stepped before e)) same in
    let is = monitor-reached s c.requires.there.0 actions c.args.monitor.now c.requires.there.2 shown.taken.size shown.window in
    let noted = subst (λ d. Renotes g.T.Writer.seen d c.refusal_of-refusal.result c.args.monitor.now c.note.new.self c.args.pen.now c.note.new.pen) (desc-reached s actions) (c.note.ensures (stepped before e) there is) in
    shown-event s actions told calm c.find_cursor-cursor.result (c.screen-screen.ensures (stepped before e) there) c.find_cursor-cursor.ensures (keeps-in c.repainted-rects.ensures kept)
    shown.same shown.told shown.window shown.noted shown.taken (c.refusal_of-refusal.ensures before (stepped before e) e there vain) noted c.paint.ensures refl refl
    false (sym c.is_some.ensures ∙ c.if-is_some.false) Puts-none from shown
