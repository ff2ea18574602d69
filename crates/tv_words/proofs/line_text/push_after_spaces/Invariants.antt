-- What is written and what is left are the words, with a space before each.
use Rattle.std.proofs.Common.{◌≡◌, ◌∷◌, ◌++◌, drop, encode_utf8_all, flat_map, string_bytes}
use Rattle.tv_words.specs.Words.{word_text}
use Rattle.tv_words.proofs.line_text.push_after_spaces.Given as goal

abbrev pub invariant-loop-word : goal.invariant-loop-word
invariant-loop-word l = string_bytes l.text ++ encode_utf8_all (flat_map (λ w. 32 ∷ word_text w) (drop l.word-index l.words)) ≡ string_bytes l.fn.text ++ encode_utf8_all (flat_map (λ w. 32 ∷ word_text w) l.words)
