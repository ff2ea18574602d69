use Rattle.std.proofs.Common.{rules, tests}
use Rattle.std.proofs.lemmas.Iterator.Consumers.{YieldsList-from_first}
use Rattle.std.proofs.lemmas.Iterator.Search.{any_from_yields_List}
use Rattle.tv_script.specs.Lines.{ends_line}
use Rattle.tv_words.specs.Tokens.{text_left, text_quoted}
use Rattle.tv_script.proofs.script_line.has_line_end.Goals as goal

pub returns : goal.returns
returns c = any_from_yields_List ends_line c.any.new.self _ c.any.result c.any.ensures.ran (YieldsList-from_first (λ x. x) text_left (text_quoted c.args.text.now) c.chars.ensures) (λ x b q k. search (rules, tests))
