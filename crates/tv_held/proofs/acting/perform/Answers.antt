use Rattle.tv_app.specs.Running.{stepped}
use Rattle.tv_held.proofs.acting.perform.Goals as goal

pub returns-clause-answer : goal.returns-clause-answer
returns-clause-answer c = λ s runs. c.answer_after.ensures (stepped s c.args.event.now) (c.step.ensures.goes_on s runs)
