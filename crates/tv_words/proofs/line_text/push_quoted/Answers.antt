use Rattle.std.proofs.Common.{arith}
use Rattle.std.proofs.lemmas.Grind.{common_steps}
use Rattle.std.proofs.lemmas.Str.{encodes-append}
use Rattle.tv_words.proofs.line_text.push_quoted.Goals as goal

pub returns : goal.returns
returns c = grind (arith, common_steps, encodes-append)
