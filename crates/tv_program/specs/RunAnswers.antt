-- What comes of answering with what a run wrote: its ends, given again.
use Rattle.std.specs.Prelude.{◌≡◌, ℕ, ◌<◌, List, [], map, filter_map, zip, length, Option, option_map, Result, Ok, Err}
use Rattle.tv_answers.specs.declared.answers.Answer.{Answer}
use Rattle.tv_answers.specs.declared.answers.Answers.{Answers}
use Rattle.tv_answers.specs.Filling.{filled}
use Rattle.tv_answers.specs.Laws.{TypesCharacters, answers_of_run}
use Rattle.tv_io.specs.Writer.{Takes}
use Rattle.tv_laws.specs.Records.{end_lines}
use Rattle.tv_machine.specs.declared.script.Item.{Item}
use Rattle.tv_machine.specs.Output.{output}
use Rattle.tv_machine.specs.Run.{started}
use Rattle.tv_model.specs.declared.desc.Desc.{Desc}
use Rattle.tv_model.specs.declared.desc.Dialog.{Dialog}
use Rattle.tv_model.specs.Log.LogText.{log_text}
use Rattle.tv_program.specs.declared.answer_fault.AnswerFault.{AnswerFault}
use Rattle.tv_program.specs.declared.answer_fault.AnswerFault.TheVariants as fails
use Rattle.tv_program.specs.Answering.{AllEnd, AnsweredRun, AnswersTo, AreRuns, after_end, endings_of, logged, runs_log}
use Rattle.tv_program.specs.Filling.{Written}

-- what a dialog logs that ends as it is answered, with the answered record
abbrev pub end_text_of : Desc → Dialog × Answer → Option (List ℕ)
end_text_of d (dialog, answer) =
    option_map (λ command. log_text d (end_lines dialog command.0 answer.entries)) answer.command

-- the same of each dialog that is answered, in description order
abbrev pub end_texts : Desc → Answers → List (List ℕ)
end_texts d a = filter_map (end_text_of d) (zip d.dialogs a.dialogs)

-- each dialog ends, and of their ends this is logged
pub record EndSo (runs : List AnsweredRun) (texts : List (List ℕ)) : Type 0 where
  pub ended : AllEnd runs
  pub written : map (λ run. logged (after_end run)) runs ≡ texts

-- the answers that a run saved were taken: each dialog ended, and what it logged of that is what the run logged of
-- its last end
pub record GivesAgain (d : Desc) (a : Answers) (old new : Written) : Type 0 where
  pub runs : List AnsweredRun
  pub begun : AreRuns (filled d a) (endings_of d a) runs
  pub ends : EndSo runs (end_texts d a)
  pub logs : Takes old.out new.out (runs_log runs)

-- What a result says of what a run wrote, and of the answers that it saved. All of it fits, and no dialog refuses its
-- end. It may be that nothing was saved, or too much written; a run of the filled description may not begin, and the
-- writer may fail
abbrev pub ComesAgain : Desc → Answers → List ℕ → Written → Written → Result (Unit {0}) AnswerFault → Type 0
ComesAgain d a written old new (Ok _) = GivesAgain d a old new
ComesAgain d a written old new (Err (fails.Disabled ending)) = ⊥
ComesAgain d a written old new (Err (fails.Refused ending)) = ⊥
ComesAgain d a written old new (Err fails.Misfits) = ⊥
ComesAgain d a written old new (Err fails.NoAnswers) = endings_of d a ≡ []
ComesAgain d a written old new (Err (fails.Answers fault)) = 1048576 < length written
ComesAgain d a written old new (Err (fails.Run fault)) = Unit {0}
ComesAgain d a written old new (Err fails.Write) = Unit {0}

-- so it is with what any script has written
abbrev pub RunsComeAgain : (Desc → Type 0) → Desc → Type 0
RunsComeAgain Mismade d =
    (name : List ℕ) (script : List Item) (old new : Written)
    (result : Result (Unit {0}) AnswerFault) → TypesCharacters script
    → AnswersTo Mismade name d (output (started d) script) old new result
    → ComesAgain d (answers_of_run d script) (output (started d) script) old new result
