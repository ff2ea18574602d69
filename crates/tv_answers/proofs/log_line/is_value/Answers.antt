use Rattle.std.proofs.Common.{arith, ◌∙◌}
use Rattle.tv_answers.proofs.LineLemmas.{many_values}
use Rattle.tv_answers.proofs.log_line.is_value.Goals as goal

pub returns-in_default : goal.returns-in_default
returns-in_default c = c.are_numbers.ensures ∙ many_values c.args.words.now (omega (arith, c.in_default.len_at_least))
