use Rattle.std.proofs.Common.{◌≡◌, [], chars, length}
use denote.Text.{Utf8}
use denote.Shadow.{shadow}
use Rattle.tv_words.specs.declared.tokens.Place.TheVariants.{Between}
use Rattle.tv_words.specs.Reading.LineTokens.{few_after}
use Rattle.tv_words.specs.Tokens.{words_in}
use Rattle.tv_words.proofs.tokens.scan.Given as goal

abbrev pub invariant-loop-ch : goal.invariant-loop-ch
invariant-loop-ch l = shadow (Utf8 l.rest) × (few_after (words_in l.tokens) l.place (chars l.rest) ≡ few_after [] Between (chars l.fn.text))

abbrev pub decreases-loop-ch : goal.decreases-loop-ch
decreases-loop-ch l = length (chars l.rest)
