use Rattle.std.proofs.Common.{◌≡◌, ◌≤◌, length, arith}
use Rattle.std.proofs.lemmas.Result.{IfOk-weaker}
use Rattle.tv_lang.specs.Reading.Descriptions.{description_outcome, Value}
use Rattle.tv_lang.specs.CanonicalDescription.{CanBeSpelled}
use Rattle.tv_lang.specs.Faults.{Spells}
use Rattle.tv_lang.proofs.ReadingLemmas.{read_spelled, all_refused, gives}
use Rattle.tv_lang.proofs.description.parse.Goals as goal

pub returns-clause-spelled : goal.returns-clause-spelled
returns-clause-spelled c =
    let short : length c.args.text.now ≤ 262144 = omega arith in
    IfOk-weaker c.read_lines.result (λ d. description_outcome c.args.text.now ≡ Value d) (λ d. Spells c.args.text.now d) (λ d e. record { short = short; lines = read_spelled c.args.text.now d e }) c.read_lines.ensures.value

pub returns-clause-can_be_spelled : goal.returns-clause-can_be_spelled
returns-clause-can_be_spelled c =
    IfOk-weaker c.read_lines.result (λ d. description_outcome c.args.text.now ≡ Value d) CanBeSpelled (λ d e. (c.args.text.now, read_spelled c.args.text.now d e)) c.read_lines.ensures.value

pub returns-clause-only : goal.returns-clause-only
returns-clause-only c = λ d spelled. gives c.read_lines.result c.args.text.now d c.read_lines.ensures.value c.read_lines.ensures.fault spelled

pub returns-clause-fault : goal.returns-clause-fault
returns-clause-fault c =
    let short : length c.args.text.now ≤ 262144 = omega arith in
    all_refused c.read_lines.result c.args.text.now short c.read_lines.ensures.fault
