use Rattle.std.proofs.Common.{rules}
use Rattle.tv_lang.proofs.LineLemmas.{added}
use Rattle.tv_lang.proofs.line.Line.start.Goals as goal

pub returns : goal.returns
returns c = added c.number.result c.args.self _ c.in_ok-keyword.field-0 _ _ c.in_ok-keyword.ensures c.number.ensures (search rules)
