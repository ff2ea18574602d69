use Rattle.std.proofs.Common.{rules}
use Rattle.tv_lang.proofs.LineLemmas.{added, grown}
use Rattle.tv_lang.proofs.line.Line.input_flags.Goals as goal

pub returns : goal.returns
returns c = added c.keyword_if-3.result c.args.self _ c.in_ok-keyword_if-2.field-0 _ _ (grown c.args.self _ c.in_ok-keyword_if.field-0 _ c.in_ok-keyword_if-2.field-0 c.in_ok-keyword_if.ensures c.in_ok-keyword_if-2.ensures) c.keyword_if-3.ensures (search rules)
