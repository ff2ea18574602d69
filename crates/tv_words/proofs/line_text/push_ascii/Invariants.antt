-- What is written and what is left are the characters.
use Rattle.std.proofs.Common.{◌≡◌, ◌++◌, drop, encode_utf8_all, string_bytes}
use Rattle.tv_words.proofs.line_text.push_ascii.Given as goal

abbrev pub invariant-loop-byte : goal.invariant-loop-byte
invariant-loop-byte l = string_bytes l.text ++ encode_utf8_all (drop l.byte-index l.bytes) ≡ string_bytes l.fn.text ++ encode_utf8_all l.bytes
