use Rattle.std.proofs.Common.{ap, refl, rules}
use Rattle.tv_program.proofs.AnswerLemmas.{EndsAll-lent, EndsAll-of}
use Rattle.tv_program.specs.AnswerRuns.{runs_of}
use Rattle.tv_program.proofs.answering.end_dialogs.Goals as goal

pub returns : goal.returns
returns g c =
    EndsAll-lent (runs_of c.args.runs.items) _ _ _ c.put_runs.result (ap g.W.Writer.seen (search rules))
    (EndsAll-of (runs_of c.args.runs.items) refl c.put_runs.ensures.text c.put_runs.result c.put_runs.ensures.comes)
