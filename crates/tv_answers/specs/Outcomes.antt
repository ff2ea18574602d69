-- What reading a log comes to, with the number of the first faulty line. Private functions are held to it.
use Rattle.std.specs.Prelude.{◌≡◌, ℕ, ◌+◌, List, [], ◌∷◌, Option, Some, None}
use Rattle.tv_model.specs.declared.desc.Desc.{Desc}
use Rattle.tv_words.specs.Lines.{lines_of}
use Rattle.tv_answers.specs.declared.answers.Answers.{Answers}
use Rattle.tv_answers.specs.declared.progress.Progress.{Progress}
use Rattle.tv_answers.specs.declared.reading.AnswersFault.{AnswersFault}
use Rattle.tv_answers.specs.declared.reading.AnswersFault.TheVariants.{NoMemory, Syntax, TooLong}
use Rattle.tv_answers.specs.ReadLogs.{line_answered, nothing_read}

-- all lines were read, or one is faulty
pub data LogOutcome : Type 0 where
  Value : (answers : Answers) → LogOutcome
  Fault : (line : ℕ) → LogOutcome

-- reading on, from the line n
abbrev pub outcome_from : Desc → ℕ → Progress → List (List ℕ) → LogOutcome
outcome_from d n p [] = Value p.answers
outcome_from d n p (l ∷ ls) =
    elim (line_answered d n p l) as (λ _. LogOutcome) [
      | None ↦ Fault n
      | Some further ↦ outcome_from d (n + 1) further ls
    ]

-- reading a whole text
abbrev pub log_outcome : Desc → List ℕ → LogOutcome
log_outcome d text = outcome_from d 1 (nothing_read d) (lines_of text)

-- what a refusal says of a line and what it is taken to
abbrev pub RefusesLine : AnswersFault → ℕ → Option Progress → Type 0
RefusesLine NoMemory n further = Unit {0}
RefusesLine (Syntax line) n further = (line ≡ n) × (further ≡ None)
RefusesLine TooLong n further = ⊥

-- what a refusal says of what reading comes to
abbrev pub StopsAt : AnswersFault → LogOutcome → Type 0
StopsAt NoMemory r = Unit {0}
StopsAt (Syntax line) r = r ≡ Fault line
StopsAt TooLong r = ⊥
