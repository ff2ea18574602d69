-- Reading a description, line by line.
use Rattle.std.specs.Prelude.{◌≡◌, ℕ, ◌+◌, List, [], ◌∷◌, Bool, true, false, Option, Some, None}
use Rattle.tv_model.specs.declared.desc.Desc.{Desc}
use Rattle.tv_lang.specs.declared.description.LangFault.{LangFault}
use Rattle.tv_lang.specs.declared.description.LangFault.TheVariants.{NoMemory, Syntax, TooLong, Version}
use Rattle.tv_words.specs.declared.word.Word.{Word}
use Rattle.tv_lang.specs.declared.progress.Progress.{Progress}
use Rattle.tv_words.specs.Lines.{lines_of}
use Rattle.tv_words.specs.Reading.LineWords.{line_words}
use Rattle.tv_lang.specs.Reading.Stages.{nothing_read, is_other_version, description_line_taken}
use Rattle.tv_lang.specs.Reading.Stages.{finished_description}

-- what a line does
pub data LineStep : Type 0 where
  Next : (further : Progress) → LineStep
  Faulty : LineStep
  OfOtherVersion : LineStep

-- on to what is read so far, where the line can come
abbrev pub step_from : Option Progress → LineStep
step_from None = Faulty
step_from (Some further) = Next further

-- the same, where the line is not one of another version
abbrev pub step_if : Bool → Option Progress → LineStep
step_if true further = OfOtherVersion
step_if false further = step_from further

-- what a line of these words does
abbrev pub words_step : Progress → Option (List Word) → LineStep
words_step p None = Faulty
words_step p (Some []) = Next p
words_step p (Some (w ∷ ws)) = step_if (is_other_version p (w ∷ ws)) (description_line_taken p (w ∷ ws))

-- what a line of bytes does
abbrev pub line_step : Progress → List ℕ → LineStep
line_step p line = words_step p (line_words line)

-- what reading gives: the description, the number of the first faulty line, or that the version is another
pub data DescriptionOutcome : Type 0 where
  Value : (desc : Desc) → DescriptionOutcome
  Fault : (line : ℕ) → DescriptionOutcome
  Other : DescriptionOutcome

-- the description, or the line that is missing
abbrev pub description_at_end : ℕ → Option Desc → DescriptionOutcome
description_at_end n None = Fault n
description_at_end n (Some d) = Value d

-- reading on, from the line n
abbrev pub description_from : ℕ → Progress → List (List ℕ) → DescriptionOutcome
description_from n p [] = description_at_end n (finished_description p)
description_from n p (l ∷ ls) =
    elim (line_step p l) as (λ _. DescriptionOutcome) [
      | Next q ↦ description_from (n + 1) q ls
      | Faulty ↦ Fault n
      | OfOtherVersion ↦ Other
    ]

-- reading a text from its first line
abbrev pub description_outcome : List ℕ → DescriptionOutcome
description_outcome text = description_from 1 nothing_read (lines_of text)

-- the fault says what the line did
abbrev pub RefusesDescriptionLine : LangFault → ℕ → LineStep → Type 0
RefusesDescriptionLine NoMemory n step = Unit {0}
RefusesDescriptionLine (Syntax line) n step = (line ≡ n) × (step ≡ Faulty)
RefusesDescriptionLine TooLong n step = ⊥
RefusesDescriptionLine Version n step = step ≡ OfOtherVersion

-- the fault says what reading gave
abbrev pub DescriptionStopsAt : LangFault → DescriptionOutcome → Type 0
DescriptionStopsAt NoMemory r = Unit {0}
DescriptionStopsAt (Syntax line) r = r ≡ Fault line
DescriptionStopsAt TooLong r = ⊥
DescriptionStopsAt Version r = r ≡ Other
