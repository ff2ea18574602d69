use Rattle.std.proofs.Common.{rules}
use Rattle.tv_lang.proofs.LineLemmas.{added, grown}
use Rattle.tv_lang.proofs.line.Line.ends.Goals as goal

pub returns : goal.returns
returns c = added c.keyword_if-4.result c.args.self _ c.in_ok-keyword_if-3.field-0 _ _ (grown c.args.self _ c.in_ok-keyword_if-2.field-0 _ c.in_ok-keyword_if-3.field-0 (grown c.args.self _ c.in_ok-keyword_if.field-0 _ c.in_ok-keyword_if-2.field-0 c.in_ok-keyword_if.ensures c.in_ok-keyword_if-2.ensures) c.in_ok-keyword_if-3.ensures) c.keyword_if-4.ensures (search rules)
