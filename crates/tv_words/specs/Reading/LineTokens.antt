-- Reading the tokens of a line, character by character.
use Rattle.std.specs.Prelude.{ℕ, List, [], ◌∷◌, ◌++◌, Bool, true, false, Option, Some, None, option_and_then}
use Rattle.std.specs.Prelude.{option_to_list, ◌==◌, if◌then◌else◌}
use Rattle.std.specs.Option.{option_map}
use Rattle.tv_words.specs.Characters.{backslash, letter_n, quote, space}
use Rattle.tv_words.specs.declared.tokens.Place.{Place}
use Rattle.tv_words.specs.declared.tokens.Place.TheVariants.{Between, InBare, InQuoted, InEscape, Closed}
use Rattle.tv_words.specs.declared.word.Word.{Word}
use Rattle.tv_words.specs.declared.word.Word.TheVariants.{Bare, Quoted}
use Rattle.tv_words.specs.TokenTexts.{bare_text, text_from}
use Rattle.tv_words.specs.Tokens.{at_most_three}

-- the place after a character
abbrev pub next_place : Place → ℕ → Option Place
next_place Between c = if c == space then Some Between else if c == quote then Some InQuoted else Some InBare
next_place InBare c = if c == space then Some Between else if c == quote then None else Some InBare
next_place InQuoted c =
    if c == quote then Some Closed else if c == backslash then Some InEscape else Some InQuoted
next_place InEscape c =
    if c == quote then Some InQuoted
    else if c == backslash then Some InQuoted else if c == letter_n then Some InQuoted else None
next_place Closed c = if c == space then Some Between else None

-- a place where a line may end
abbrev pub may_end_line : Place → Bool
may_end_line Between = true
may_end_line InBare = true
may_end_line InQuoted = false
may_end_line InEscape = false
may_end_line Closed = true

-- the word that begins with this character, if one does
abbrev pub word_begun : Place → ℕ → List ℕ → Option Word
word_begun Between c cs =
    if c == space then None
    else if c == quote then Some (Quoted (text_from false cs)) else Some (Bare (bare_text (c ∷ cs)))
word_begun InBare c cs = None
word_begun InQuoted c cs = None
word_begun InEscape c cs = None
word_begun Closed c cs = None

-- the words that begin from the place on
abbrev pub words_from : Place → List ℕ → Option (List Word)
words_from p [] = if may_end_line p then Some [] else None
words_from p (c ∷ cs) =
    option_and_then (λ q. option_map (λ ws. option_to_list (word_begun p c cs) ++ ws) (words_from q cs))
    (next_place p c)

-- the same after these words, where there are no more than three
abbrev pub few_after : List Word → Place → List ℕ → Option (List Word)
few_after ws p cs = option_and_then at_most_three (option_map (λ more. ws ++ more) (words_from p cs))
