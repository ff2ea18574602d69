use Rattle.std.proofs.Common.{ap, ◌∙◌, is_some}
use Rattle.tv_window.proofs.TakesLemmas.{digit-taken}
use Rattle.tv_window.proofs.desk.DeskOf.takes_digit.Goals as goal

pub returns : goal.returns
returns g c = λ d s is.
    c.is_some.ensures ∙ ap is_some c.place_of_digit.ensures ∙ digit-taken g.V.View.meaning d s c.args.self.now is c.deref.result.now c.deref.ensures.value c.args.letter
