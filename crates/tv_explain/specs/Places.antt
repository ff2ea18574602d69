-- The place of each line of the canonical text in the user's own text, comments and empty lines counted.
use Rattle.std.specs.Prelude.{◌≡◌, ℕ, ◌+◌, ◌≤◌, ◌<◌, length, List, [], ◌∷◌, ◌++◌, Bool, true, false, Option, Some, None}
use Rattle.std.specs.Prelude.{slice_get, slice_index, if◌then◌else◌}
use Rattle.tv_model.specs.declared.desc.Desc.{Desc}
use Rattle.tv_words.specs.Lines.{lines_of}
use Rattle.tv_words.specs.Words.{SpellsWords}
use Rattle.tv_words.specs.Reading.LineWords.{line_words}
use Rattle.tv_words.specs.declared.word.Word.{Word}
use Rattle.tv_declarations.specs.Spelling.{word_lines}
use Rattle.tv_lang.specs.Faults.{Spells}

-- whether these are words, one at least
abbrev pub are_words : Option (List Word) → Bool
are_words None = false
are_words (Some []) = false
are_words (Some (w ∷ ws)) = true

-- a line says something where it has words: empty lines and comments have none
abbrev pub says_something : List ℕ → Bool
says_something line = are_words (line_words line)

-- the number of a line that says something
abbrev pub said : ℕ → List ℕ → List ℕ
said number line = if says_something line then number ∷ [] else []

-- the numbers of the lines that say something, the first line having this number
abbrev pub said_from : ℕ → List (List ℕ) → List ℕ
said_from number [] = []
said_from number (line ∷ lines) = said number line ++ said_from (number + 1) lines

-- the places of all lines of the canonical text, which count from 1: there is no line 0
abbrev pub places_of : List ℕ → List ℕ
places_of text = 0 ∷ said_from 1 (lines_of text)

-- the place of a line, or 0 where the text hasn't so many
unfoldable pub place : List ℕ → ℕ → ℕ
place text line = slice_index (places_of text) line

-- the line of the text with this number, counted from 1, spells the line of the description's canonical text
-- with that one
pub record SpellsAt (text : List ℕ) (d : Desc) (line number : ℕ) : Type 0 where
  pub own : List ℕ
  pub words : List Word
  pub stands : slice_get ([] ∷ lines_of text) number ≡ Some own
  pub declared : slice_get ([] ∷ word_lines d) line ≡ Some words
  pub spelled : SpellsWords own words

-- where a text spells the description, each line of its canonical text is spelled at its place
abbrev pub StandAtTheirPlaces : Desc → Type 0
StandAtTheirPlaces d =
    (text : List ℕ) → Spells text d → (line : ℕ) → 0 < line → line ≤ length (word_lines d)
    → SpellsAt text d line (place text line)
