use Rattle.std.proofs.Common.{rules}
use Rattle.tv_lang.proofs.LineLemmas.{added}
use Rattle.tv_lang.proofs.line.Line.opens.Goals as goal

pub returns-in_ok-keyword-in-Some : goal.returns-in_ok-keyword-in-Some
returns-in_ok-keyword-in-Some c = added c.number.result c.args.self _ c.in_ok-keyword-in-Some.field-0 _ _ c.in_ok-keyword-in-Some.ensures c.number.ensures (search rules)
