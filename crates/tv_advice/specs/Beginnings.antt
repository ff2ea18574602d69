-- What a text is, by its first word.
use Rattle.std.specs.Prelude.{ℕ, ◌+◌, List, [], ◌∷◌, Bool, false, Option, Some, None, codes, unwrap_or}
use Rattle.std.specs.Option.{option_or}
use Rattle.tv_words.specs.Fields.{is_bare_word}
use Rattle.tv_words.specs.Lines.{lines_of}
use Rattle.tv_words.specs.Reading.LineWords.{line_words}
use Rattle.tv_words.specs.declared.word.Word.{Word}

-- whether words begin a certificate, where there are some
abbrev pub begins_certificate : List Word → Option Bool
begins_certificate [] = None
begins_certificate (word ∷ words) = Some (is_bare_word word (codes "tvcert"))

-- the same of the words of a line, if they can be told apart
abbrev pub answer_by : Option (List Word) → Option Bool
answer_by None = Some false
answer_by (Some words) = begins_certificate words

abbrev pub answer_of : (line : List ℕ) → Option Bool
answer_of line = answer_by (line_words line)

-- the answer of the first line that has one
abbrev pub first_answer : List (List ℕ) → Option Bool
first_answer [] = None
first_answer (line ∷ lines) = option_or (answer_of line) (first_answer lines)

-- a line's number if the line has an answer, else that of a later one
abbrev pub number_by : Option Bool → (own later : ℕ) → ℕ
number_by None own later = later
number_by (Some answer) own later = own

-- the number of the first of these lines that declares something, the first of them having this number
abbrev pub first_declared : (number : ℕ) → List (List ℕ) → ℕ
first_declared number [] = number
first_declared number (line ∷ lines) = number_by (answer_of line) number (first_declared (number + 1) lines)

-- the text is taken for a certificate
abbrev pub is_certificate : (text : List ℕ) → Bool
is_certificate text = unwrap_or (first_answer (lines_of text)) false
