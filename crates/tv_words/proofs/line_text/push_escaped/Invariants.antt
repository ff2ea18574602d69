-- What is written and what is left are the characters, escaped.
use Rattle.std.proofs.Common.{◌≡◌, ◌++◌, drop, encode_utf8_all, flat_map, string_bytes}
use Rattle.tv_words.specs.Words.{escaped}
use Rattle.tv_words.proofs.line_text.push_escaped.Given as goal

abbrev pub invariant-loop-ch : goal.invariant-loop-ch
invariant-loop-ch l = string_bytes l.text ++ encode_utf8_all (flat_map escaped (drop l.ch-index l.chars)) ≡ string_bytes l.fn.text ++ encode_utf8_all (flat_map escaped l.chars)
