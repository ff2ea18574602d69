-- What is written and what is left are the characters.
use Rattle.std.proofs.Common.{◌≡◌, ◌++◌, drop, encode_utf8_all, string_bytes}
use Rattle.tv_words.proofs.line_text.push_chars.Given as goal

abbrev pub invariant-loop-ch : goal.invariant-loop-ch
invariant-loop-ch l = string_bytes l.text ++ encode_utf8_all (drop l.ch-index l.chars) ≡ string_bytes l.fn.text ++ encode_utf8_all l.chars
