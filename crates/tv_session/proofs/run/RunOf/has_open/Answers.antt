use Rattle.std.proofs.Common.{◌∙◌}
use Rattle.tv_session.proofs.LaidLemmas.{none-has, some-has}
use Rattle.tv_session.proofs.run.RunOf.has_open.Goals as goal

pub returns-in-Some : goal.returns-in-Some
returns-in-Some g c = λ s r.
    c.eq.ensures
    ∙ some-has c.args.desc.now c.args.id s c.in-Some.open c.open_id.result c.in-Some.is (λ o some. c.open_id.ensures.of_open s o r.dialogs some) (λ none. c.open_id.ensures.none s r.dialogs none)

pub returns-in-None : goal.returns-in-None
returns-in-None g c = λ s r. none-has c.args.desc.now c.args.id s c.open_id.result c.in-None.is (λ o some. c.open_id.ensures.of_open s o r.dialogs some)
