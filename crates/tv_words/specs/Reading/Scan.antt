-- Reading the words of a line, character by character.
use Rattle.std.specs.Prelude.{ℕ, List, [], ◌∷◌, ◌++◌, Option, Some, None, option_and_then, ◌==◌}
use Rattle.std.specs.Prelude.{if◌then◌else◌}
use Rattle.tv_words.specs.Characters.{backslash, letter_n, line_feed, quote, space}
use Rattle.tv_words.specs.declared.word.Word.{Word}
use Rattle.tv_words.specs.declared.word.Word.TheVariants.{Bare, Quoted}
use Rattle.tv_words.specs.declared.scan.Mode.{Mode}
use Rattle.tv_words.specs.declared.scan.Mode.TheVariants.{Between, InBare, InQuoted, InEscape, Closed}
use Rattle.tv_words.specs.declared.scan.Scanner.{Scanner}
use Rattle.tv_words.specs.Reading.Steps.{steps}

-- these words so far, in this mode
abbrev pub at : List Word → Mode → Scanner
at words mode = record { words = words; mode = mode }

-- one character more, by the mode
abbrev pub character_taken : List Word → Mode → ℕ → Option Scanner
character_taken ws Between c =
    if c == space then Some (at ws Between)
    else if c == quote then Some (at ws (InQuoted [])) else Some (at ws (InBare (c ∷ [])))
character_taken ws (InBare text) c =
    if c == space then Some (at (ws ++ Bare text ∷ []) Between)
    else if c == quote then None else Some (at ws (InBare (text ++ c ∷ [])))
character_taken ws (InQuoted text) c =
    if c == quote then Some (at (ws ++ Quoted text ∷ []) Closed)
    else if c == backslash then Some (at ws (InEscape text)) else Some (at ws (InQuoted (text ++ c ∷ [])))
character_taken ws (InEscape text) c =
    if c == quote then Some (at ws (InQuoted (text ++ quote ∷ [])))
    else if c == backslash then Some (at ws (InQuoted (text ++ backslash ∷ [])))
    else if c == letter_n then Some (at ws (InQuoted (text ++ line_feed ∷ []))) else None
character_taken ws Closed c = if c == space then Some (at ws Between) else None

-- one character more
abbrev pub take_char : Scanner → ℕ → Option Scanner
take_char s c = character_taken s.words s.mode c

-- the words at the end of the line, by the mode
abbrev pub words_at_end : List Word → Mode → Option (List Word)
words_at_end ws Between = Some ws
words_at_end ws (InBare text) = Some (ws ++ Bare text ∷ [])
words_at_end ws (InQuoted text) = None
words_at_end ws (InEscape text) = None
words_at_end ws Closed = Some ws

-- the words at the end of the line
abbrev pub finished : Scanner → Option (List Word)
finished s = words_at_end s.words s.mode

-- the words that are read from the scanner on
abbrev pub read_on : Scanner → List ℕ → Option (List Word)
read_on s cs = option_and_then finished (steps take_char s cs)
