use Rattle.std.proofs.Common.{rules}
use Rattle.tv_lang.proofs.LineLemmas.{added, grown}
use Rattle.tv_lang.proofs.line.Line.domain.Goals as goal

pub returns-in_ok-number-in-Range : goal.returns-in_ok-number-in-Range
returns-in_ok-number-in-Range c = added c.number-in-Range.result c.args.self _ c.in_ok-number-in-Range.field-0 _ _ (grown c.args.self _ c.in_ok-keyword-in-Range.field-0 _ c.in_ok-number-in-Range.field-0 c.in_ok-keyword-in-Range.ensures c.in_ok-number-in-Range.ensures) c.number-in-Range.ensures (search rules)
