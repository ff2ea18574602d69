-- The words that the tokens of a line mean.
use Rattle.std.specs.Prelude.{ℕ, List, [], ◌∷◌, false, chars, length, nat_le, Option, Some, None}
use Rattle.std.specs.Prelude.{if◌then◌else◌}
use Rattle.tv_words.specs.declared.token.BareText.{BareText}
use Rattle.tv_words.specs.declared.token.QuotedText.{QuotedText}
use Rattle.tv_words.specs.declared.token.QuotedChars.{QuotedChars}
use Rattle.tv_words.specs.declared.token.Token.{Token}
use Rattle.tv_words.specs.declared.token.Token.TheVariants as tokens
use Rattle.tv_words.specs.declared.tokens.Tokens.{Tokens}
use Rattle.tv_words.specs.declared.tokens.Tokens.TheVariants.{Zero, One, Two, Three}
use Rattle.tv_words.specs.declared.word.Word.{Word}
use Rattle.tv_words.specs.declared.word.Word.TheVariants.{Bare, Quoted}
use Rattle.tv_words.specs.TokenTexts.{bare_text, text_from}

-- the characters of a bare word
abbrev pub bare_of : BareText → List ℕ
bare_of t = bare_text (chars t.rest.now)

-- the text of a quoted word
abbrev pub text_quoted : QuotedText → List ℕ
text_quoted t = text_from false (chars t.rest.now)

-- the characters of a text that are left
abbrev pub text_left : QuotedChars → List ℕ
text_left t = text_from false (chars t.rest.now)

-- the word that a token means
abbrev pub token_word : Token → Word
token_word (tokens.Bare t) = Bare (bare_of t)
token_word (tokens.Quoted t) = Quoted (text_quoted t)

-- the words that tokens mean
abbrev pub words_in : Tokens → List Word
words_in Zero = []
words_in (One a) = token_word a ∷ []
words_in (Two a b) = token_word a ∷ token_word b ∷ []
words_in (Three a b c) = token_word a ∷ token_word b ∷ token_word c ∷ []

-- the words, where there are no more than three
abbrev pub at_most_three : List Word → Option (List Word)
at_most_three ws = if nat_le (length ws) 3 then Some ws else None
