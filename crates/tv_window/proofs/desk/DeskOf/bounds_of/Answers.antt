use Rattle.std.proofs.Common.{Some, ap, sym, ◌∙◌}
use Rattle.tv_window.proofs.TakesLemmas.{bounds-of, no-bounds}
use Rattle.tv_window.proofs.desk.DeskOf.bounds_of.Goals as goal

pub returns-in-Some-clause-is : goal.returns-in-Some-clause-is
returns-in-Some-clause-is g c = λ d stack is.
    ap (λ r. Some r) c.bounds.ensures.is
    ∙ bounds-of g.V.View.meaning d stack c.args.self.now is c.deref.result.now c.deref.ensures.value c.args.id c.in-Some.place (sym c.place_of_id.ensures ∙ c.in-Some.is) c.index.result.now c.index.ensures

pub returns-in-None-clause-is : goal.returns-in-None-clause-is
returns-in-None-clause-is g c = λ d stack is.
    sym (no-bounds g.V.View.meaning d stack c.args.self.now is c.deref.result.now c.deref.ensures.value c.args.id (sym c.place_of_id.ensures ∙ c.in-None.is))
