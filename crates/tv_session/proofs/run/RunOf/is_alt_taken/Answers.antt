use Rattle.std.proofs.Common.{false, is_some, refl, sym, true, ◌∙◌}
use Rattle.tv_machine.specs.Session.Desktop.{window_of_digit}
use Rattle.tv_session.proofs.LeavingLemmas.{alt-taken}
use Rattle.tv_session.proofs.run.RunOf.is_alt_taken.Goals as goal

pub returns-then-takes : goal.returns-then-takes
returns-then-takes g c = λ d s r shut.
    c.if-takes.true
    ∙ alt-taken d s c.args.letter true (is_some (window_of_digit d s c.args.letter)) shut (sym c.if-takes.true ∙ c.takes.ensures d s r.bar r.menu) refl

pub returns-else-takes : goal.returns-else-takes
returns-else-takes g c = λ d s r shut.
    alt-taken d s c.args.letter false c.takes_digit.result shut (sym c.if-takes.false ∙ c.takes.ensures d s r.bar r.menu) (c.takes_digit.ensures d s r.desk)
