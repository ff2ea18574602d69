-- The words so far.
use Rattle.std.proofs.Common.{◌≡◌, map, string_bytes, take}
use Rattle.tv_boxes.specs.Arguments.{words_in}
use Rattle.tv_boxes.proofs.arguments.words_of.Given as goal

abbrev pub invariant-loop-word : goal.invariant-loop-word
invariant-loop-word l = l.list ≡ words_in (map string_bytes (take l.word-index l.words))
