use Rattle.std.proofs.Common.{Some, ap, subst, sym, ◌∙◌}
use Rattle.tv_machine.specs.Session.Dragging.{dropped, let_go, placed, step_dragged}
use Rattle.tv_session.specs.Running.{IsRunSince, seen_frame}
use Rattle.tv_session.proofs.DraggingLemmas.{held-column}
use Rattle.tv_session.proofs.run.RunOf.drag.Goals as goal

pub corner-requires : goal.corner-requires
corner-requires g c = record {
  column = held-column g.V.View.meaning c.args.desc.now c.args.frame c.requires.0 c.args.self.now c.requires.1;
  screen = c.requires.1.size;
}

pub corner-requires-in-Up : goal.corner-requires-in-Up
corner-requires-in-Up g c = record {
  column = held-column g.V.View.meaning c.args.desc.now c.args.frame c.requires.0 c.args.self.now c.requires.1;
  screen = c.requires.1.size;
}

pub returns-in-Move : goal.returns-in-Move
returns-in-Move g c = λ since s a marked.
    let d = c.args.desc.now in
    let f = seen_frame c.args.frame in
    subst (λ t. IsRunSince g.V.View.meaning d since t c.place.new.self)
    (ap (λ corner. placed s.dialog corner s) c.corner.ensures.is ∙ sym (ap (λ e. step_dragged d f e s) c.in-Move.is))
    (c.place.ensures d (Some f) since s a marked)

pub returns-in-Up : goal.returns-in-Up
returns-in-Up g c = λ since s a marked.
    let d = c.args.desc.now in
    let f = seen_frame c.args.frame in
    subst (λ t. IsRunSince g.V.View.meaning d since t c.release.new.self)
    (ap (λ corner. dropped d f corner (placed s.dialog corner (let_go s))) c.corner-in-Up.ensures.is ∙ sym (ap (λ e. step_dragged d f e s) c.in-Up.is))
    (c.release.ensures since s a marked)
