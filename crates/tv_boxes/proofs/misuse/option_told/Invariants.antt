-- The letters so far, and those that are left.
use Rattle.std.proofs.Common.{◌≡◌, ◌++◌, drop, string_bytes}
use Rattle.std.specs.Prelude.{encode_utf8_all}
use Rattle.tv_boxes.proofs.misuse.option_told.Given as goal

abbrev pub invariant-loop-letter : goal.invariant-loop-letter
invariant-loop-letter l = string_bytes l.told ++ encode_utf8_all (drop l.letter-index l.word) ≡ encode_utf8_all l.word
