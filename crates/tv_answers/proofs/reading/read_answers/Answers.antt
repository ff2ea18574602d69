use Rattle.std.proofs.Common.{◌≡◌, ◌≤◌, length, arith}
use Rattle.std.proofs.lemmas.Result.{IfOk-weaker}
use Rattle.tv_answers.specs.Outcomes.{Value, log_outcome}
use Rattle.tv_answers.specs.ReadLogs.{IsAnswered}
use Rattle.tv_answers.specs.Filling.{HaveSpelledValues}
use Rattle.tv_answers.proofs.ValueLemmas.{answers_spelled}
use Rattle.tv_answers.proofs.ReadLemmas.{all_read, all_refused}
use Rattle.tv_answers.proofs.reading.read_answers.Goals as goal

pub returns-clause-read : goal.returns-clause-read
returns-clause-read c =
    let short : length c.args.text.now ≤ 1048576 = omega arith in
    IfOk-weaker c.read_lines.result (λ answers. log_outcome c.args.desc.now c.args.text.now ≡ Value answers) (IsAnswered c.args.desc.now c.args.text.now) (λ answers e. record { within = short; answered = all_read c.args.desc.now c.args.text.now answers e }) c.read_lines.ensures.value

pub returns-clause-fault : goal.returns-clause-fault
returns-clause-fault c =
    let short : length c.args.text.now ≤ 1048576 = omega arith in
    all_refused c.read_lines.result c.args.desc.now c.args.text.now short c.read_lines.ensures.fault

pub returns-clause-spelled : goal.returns-clause-spelled
returns-clause-spelled c =
    IfOk-weaker c.read_lines.result (λ answers. log_outcome c.args.desc.now c.args.text.now ≡ Value answers) HaveSpelledValues (λ answers e. answers_spelled c.args.desc.now c.args.text.now answers (all_read c.args.desc.now c.args.text.now answers e)) c.read_lines.ensures.value
