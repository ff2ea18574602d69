use Rattle.std.proofs.Common.{sym, ◌∙◌}
use Rattle.tv_picture.proofs.LengthLemmas.{shortest_class, shortest_literal, equal_one}
use Rattle.tv_picture.proofs.shortest.of_mark.Goals as goal

pub returns-in_default : goal.returns-in_default
returns-in_default c = shortest_class c.args.mark c.in_default.not-Literal c.in_default.not-Quoted

pub returns-then-eq : goal.returns-then-eq
returns-then-eq c =
    shortest_literal c.args.mark c.in-Literal.ch c.in-Literal.is
    (sym c.width.ensures.value ∙ equal_one c.width.result (sym c.eq.ensures ∙ c.if-eq.true))
