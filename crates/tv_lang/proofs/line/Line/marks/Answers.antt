use Rattle.std.proofs.Common.{rules}
use Rattle.tv_lang.proofs.LineLemmas.{added}
use Rattle.tv_lang.proofs.line.Line.marks.Goals as goal

pub returns-in_ok-keyword : goal.returns-in_ok-keyword
returns-in_ok-keyword c = added c.numbers.result c.args.self _ c.in_ok-keyword.field-0 _ _ c.in_ok-keyword.ensures c.numbers.ensures (search rules)
