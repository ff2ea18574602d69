use Rattle.std.proofs.Common.{string_bytes}
use Rattle.tv_words.proofs.PrintLemmas.{ok_map, line_written}
use Rattle.tv_words.proofs.line_text.push_words.Goals as goal

pub returns-in_ok-push_word-in-len1-up : goal.returns-in_ok-push_word-in-len1-up
returns-in_ok-push_word-in-len1-up c = ok_map c.push_after_spaces.result (line_written (string_bytes c.args.text.now) (string_bytes c.push_word.new.text) (string_bytes c.push_after_spaces.new.text) c.args.words.now c.first-item.result c.in-len1-up.len_at_least c.first-item.is c.in_ok-push_word-in-len1-up.ensures) c.push_after_spaces.ensures
