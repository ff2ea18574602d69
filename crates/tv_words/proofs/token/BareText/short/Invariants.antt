use Rattle.std.proofs.Common.{◌≡◌, ◌++◌, chars, length}
use denote.Text.{Utf8}
use denote.Shadow.{shadow}
use Rattle.tv_words.specs.TokenTexts.{bare_text}
use Rattle.tv_words.specs.Tokens.{bare_of}
use Rattle.tv_words.proofs.token.BareText.short.Given as goal

abbrev pub invariant-loop-ch : goal.invariant-loop-ch
invariant-loop-ch l = shadow (Utf8 l.rest) × (l.text.items ++ bare_text (chars l.rest) ≡ bare_of l.self)

abbrev pub decreases-loop-ch : goal.decreases-loop-ch
decreases-loop-ch l = length (chars l.rest)
