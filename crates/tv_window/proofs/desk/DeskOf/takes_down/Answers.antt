use Rattle.std.proofs.Common.{ap, sym, ◌∙◌}
use Rattle.tv_window.specs.Desk.{is_hit}
use Rattle.tv_window.proofs.TakesLemmas.{ahead, at-front, behind-taken, front-taken, none-taken}
use Rattle.tv_window.proofs.desk.DeskOf.takes_down.Goals as goal

pub returns-in_default : goal.returns-in_default
returns-in_default g c = λ d s is.
    sym (none-taken g.V.View.meaning d s c.args.self.now is c.deref.result.now c.deref.ensures.value c.args.point (sym c.place_under.ensures ∙ c.in_default.is))

pub returns-then-place-gt0 : goal.returns-then-place-gt0
returns-then-place-gt0 g c = λ d s is.
    ahead c.in-Some.place c.if-place-gt0.true
    ∙ sym (behind-taken g.V.View.meaning d s c.args.self.now is c.deref.result.now c.deref.ensures.value c.args.point c.in-Some.place (sym c.place_under.ensures ∙ c.in-Some.is) c.if-place-gt0.true)

pub returns-else-place-gt0 : goal.returns-else-place-gt0
returns-else-place-gt0 g c = λ d s is.
    c.is_hit.ensures ∙ ap is_hit c.hit_on.ensures.is
    ∙ sym (front-taken g.V.View.meaning d s c.args.self.now is c.deref.result.now c.deref.ensures.value c.args.point c.in-Some.place (sym c.place_under.ensures ∙ c.in-Some.is)
    (at-front c.in-Some.place c.if-place-gt0.false) c.index.result.now c.index.ensures)
