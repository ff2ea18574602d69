use Rattle.std.proofs.Common.{sym, ◌∙◌}
use Rattle.tv_words.proofs.LineTokenLemmas.{tokens_spelled, tokens_only, scanned_few, comment_few, no_text_few}
use Rattle.tv_words.proofs.tokens.tokens_of.Goals as goal

pub returns-then-is_comment-clause-read : goal.returns-then-is_comment-clause-read
returns-then-is_comment-clause-read c = comment_few c.args.line.now c.in-Ok.text.now c.in-Ok.ensures.cases.0 c.in-Ok.ensures.cases.1 (sym c.if-has_control.ensures) (sym c.if-is_comment.ensures)

pub returns-clause-read : goal.returns-clause-read
returns-clause-read c = c.scan.ensures ∙ scanned_few c.args.line.now c.in-Ok.text.now c.in-Ok.ensures.cases.0 c.in-Ok.ensures.cases.1 (sym c.if-has_control.ensures) (sym c.if-is_comment.ensures)

pub returns-clause-spelled : goal.returns-clause-spelled
returns-clause-spelled c = tokens_spelled c.args.line.now c.scan.result (returns-clause-read c)

pub returns-clause-only : goal.returns-clause-only
returns-clause-only c = tokens_only c.args.line.now c.scan.result (returns-clause-read c)

pub returns-in_default-clause-read : goal.returns-in_default-clause-read
returns-in_default-clause-read c = no_text_few c.args.line.now c.in_default.ensures.cases.0
