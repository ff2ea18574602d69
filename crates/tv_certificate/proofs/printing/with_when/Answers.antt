use Rattle.std.proofs.Common.{rules}
use Rattle.tv_lang.proofs.LineLemmas.{added, grown}
use Rattle.tv_certificate.proofs.printing.with_when.Goals as goal

pub returns-in_ok-name-in-Some : goal.returns-in_ok-name-in-Some
returns-in_ok-name-in-Some c = added c.number.result c.args.line _ c.in_ok-name-in-Some.field-0 _ _ (grown c.args.line _ c.in_ok-keyword-in-Some.field-0 _ c.in_ok-name-in-Some.field-0 c.in_ok-keyword-in-Some.ensures c.in_ok-name-in-Some.ensures) c.number.ensures (search rules)
