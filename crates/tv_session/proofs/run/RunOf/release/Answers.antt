use Rattle.std.proofs.Common.{◌≡◌, None, Bool, true, false, if◌then◌else◌, refl, ap, subst, sym, ◌∙◌}
use Rattle.tv_machine.specs.Session.Dragging.{is_same_point, let_go, moved_frame, placed}
use Rattle.tv_session.specs.Running.{IsRunSince}
use Rattle.tv_session.proofs.DraggingLemmas.{let-go, placed-log}
use Rattle.tv_session.proofs.EventLemmas.{not_false, not_true}
use Rattle.tv_session.proofs.MarkedLemmas.{marked-aside}
use Rattle.tv_session.proofs.run.RunOf.release.Goals as goal

pub returns-then-ne : goal.returns-then-ne
returns-then-ne g c = λ since s a marked.
    let d = c.args.desc.now in
    let look = g.V.View.meaning in
    let corner = c.args.corner in
    let t = placed s.dialog corner (let_go s) in
    let moved = c.place.ensures d None since (let_go s) (let-go look d c.args.frame s c.args.self.now a) (marked-aside d since s (let_go s) c.args.self.now.damage marked refl refl refl) in
    let other : is_same_point c.args.frame.from corner ≡ false = not_true (is_same_point c.args.frame.from corner) (sym c.ne.ensures ∙ c.if-ne.true) in
    subst (λ x. IsRunSince look d since x c.note_moved.new.self) (sym (ap (λ (b : Bool). if b then t else moved_frame d t.dialog corner t) other))
    (c.note_moved.ensures since t moved (placed-log s.dialog corner (let_go s) ∙ a.empty))

pub returns-else-ne : goal.returns-else-ne
returns-else-ne g c = λ since s a marked.
    let d = c.args.desc.now in
    let look = g.V.View.meaning in
    let corner = c.args.corner in
    let t = placed s.dialog corner (let_go s) in
    let moved = c.place.ensures d None since (let_go s) (let-go look d c.args.frame s c.args.self.now a) (marked-aside d since s (let_go s) c.args.self.now.damage marked refl refl refl) in
    let same : is_same_point c.args.frame.from corner ≡ true = not_false (is_same_point c.args.frame.from corner) (sym c.ne.ensures ∙ c.if-ne.false) in
    subst (λ x. IsRunSince look d since x c.place.new.self) (sym (ap (λ (b : Bool). if b then t else moved_frame d t.dialog corner t) same)) moved
