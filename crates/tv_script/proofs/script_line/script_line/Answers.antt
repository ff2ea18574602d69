use Rattle.std.proofs.Common.{Some, ◌∙◌}
use Rattle.tv_words.specs.Tokens.{words_in}
use Rattle.tv_script.proofs.ScriptLineLemmas.{tokens_read}
use Rattle.tv_script.proofs.script_line.script_line.Goals as goal

pub returns : goal.returns
returns c = c.line_of.ensures ∙ tokens_read c.args.line.now (Some (words_in c.in_ok-tokens_of.field-0)) c.in_ok-tokens_of.ensures.read
