use Rattle.std.proofs.Common.{◌∙◌, List, subst, sym}
use Rattle.std.specs.Prelude.{Contains}
use Rattle.tv_model.specs.declared.log.LogLine.{LogLine}
use Rattle.tv_model.specs.declared.log.LogLine.TheVariants as lines
use Rattle.tv_ways.proofs.RunningLemmas.{refused}
use Rattle.tv_ways.proofs.refusing.refusing_unseen.Goals as goal

pub returns-else-eq : goal.returns-else-eq
returns-else-eq c = λ s runs.
    refused s.desc c.args.place c.in_ok-focus.focus c.in_ok-input.input s.state (c.in_ok-focus.ensures s runs)
    (subst (λ (log : List LogLine). Contains log (lines.Invalid c.in_ok-input.input)) (c.log.ensures s runs) c.in_ok-input.ensures)
    (sym c.eq.ensures ∙ c.if-eq.false)
