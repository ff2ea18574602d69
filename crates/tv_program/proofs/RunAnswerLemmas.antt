-- Where what a run wrote is answered, each dialog ends again as it ended last.
use Rattle.std.proofs.Common.{◌≡◌, ◌≢◌, ℕ, zero, suc, ◌+◌, ◌<◌, Bool, true, false, List, [], ◌∷◌, length, map, Option, Some, None, is_some, option_map, Result, Ok, Err, refl, sym, ap, subst, ◌∙◌, All}
use Rattle.std.specs.Prelude.{option_and_then, slice_get, take}
use Rattle.std.specs.List.{AllByRecursion, cons_option, filter_map, zip}
use Rattle.std.proofs.lemmas.List.Elements.{All-head, All-tail}
use Rattle.tv_answers.specs.declared.answers.Answer.{Answer}
use Rattle.tv_answers.specs.declared.answers.Answers.{Answers}
use Rattle.tv_answers.specs.declared.progress.Progress.{Progress}
use Rattle.tv_answers.specs.declared.reading.AnswersFault.{AnswersFault}
use Rattle.tv_answers.specs.declared.reading.AnswersFault.TheVariants as answers
use Rattle.tv_answers.specs.Again.{EndsSo}
use Rattle.tv_answers.specs.Filling.{filled}
use Rattle.tv_answers.specs.Laws.{TypesCharacters, answers_of_run}
use Rattle.tv_answers.specs.ReadLogs.{RefusesAnswers, answers_in, answers_of, line_answered, lines_answered, nothing_read}
use Rattle.tv_answers.proofs.AgainLemmas.{end_again}
use Rattle.tv_answers.proofs.TypedRunLemmas.{log_is_read}
use Rattle.tv_event.specs.declared.event.Command.{Command}
use Rattle.tv_lang.specs.CanonicalDescription.{CanBeSpelled}
use Rattle.tv_laws.specs.Records.{end_lines}
use Rattle.tv_machine.proofs.ListLemmas.{option_cases}
use Rattle.tv_machine.specs.declared.script.Item.{Item}
use Rattle.tv_machine.specs.Output.{output}
use Rattle.tv_machine.specs.Run.{started}
use Rattle.tv_model.specs.declared.desc.Desc.{Desc}
use Rattle.tv_model.specs.declared.desc.Dialog.{Dialog}
use Rattle.tv_model.specs.Description.Certificates.{dialog_name}
use Rattle.tv_model.specs.Faults.{IsSound}
use Rattle.tv_model.specs.Log.LogText.{log_text}
use Rattle.tv_words.specs.Lines.{lines_of}
use Rattle.tv_program.specs.declared.answer_fault.AnswerFault.{AnswerFault}
use Rattle.tv_program.specs.declared.answer_fault.AnswerFault.TheVariants as fails
use Rattle.tv_program.specs.declared.answer_fault.Ending.{Ending}
use Rattle.tv_program.specs.Answering.{AnsweredRun, AnswersTo, AreRuns, StaysOpen, after_end, begun_text, ending_of, endings_of, logged}
use Rattle.tv_program.specs.Filling.{Written}
use Rattle.tv_program.specs.Reading.{IsSoundText}
use Rattle.tv_program.specs.RunAnswers.{ComesAgain, EndSo, RunsComeAgain, end_text_of, end_texts}
use Rattle.tv_program.proofs.AnswerLemmas.{find-goes_on}

-- ---- lines that aren't read

unread_on : (d : Desc) (ls : List (List ℕ)) (k n : ℕ) (p : Progress) → lines_answered d n p (take k ls) ≡ None → lines_answered d n p ls ≡ None
unread_on d [] zero n p none = none
unread_on d [] (suc k) n p none = none
unread_on d (l ∷ ls) zero n p none = absurd cc
unread_on d (l ∷ ls) (suc k) n p none =
    option_cases (line_answered d n p l)
    (λ o. option_and_then (λ further. lines_answered d (n + 1) further (take k ls)) o ≡ None → option_and_then (λ further. lines_answered d (n + 1) further ls) o ≡ None) (λ is e. refl)
    (λ further is e. unread_on d ls k (n + 1) further e) none

unanswered : (d : Desc) (ls : List (List ℕ)) (k : ℕ) (a : Answers) → answers_of d (take k ls) ≡ None → answers_of d ls ≡ Some a → ⊥
unanswered d ls k a none is =
    let stops : lines_answered d 1 (nothing_read d) (take k ls) ≡ None = unmapped (lines_answered d 1 (nothing_read d) (take k ls)) none in
    (let both : None ≡ Some a = sym (ap (option_map (λ (p : Progress). p.answers)) (unread_on d ls k 1 (nothing_read d) stops)) ∙ is in absurd cc)
  where
    unmapped : (o : Option Progress) → option_map (λ (p : Progress). p.answers) o ≡ None → o ≡ None
    unmapped None e = refl
    unmapped (Some p) e = absurd cc

-- ---- runs

module _ (d : Desc) (full : Desc) where
  -- whatever run is begun for the answer of the dialog, it ends so
  abbrev Good : Dialog × Answer → Type 0
  Good (dialog, answer) =
      (command : Command) (e : Desc) → answer.command ≡ Some command → IsSoundText (begun_text full (dialog_name dialog)) e
      → EndsSo e command (log_text d (end_lines dialog command.0 answer.entries))

  abbrev Reads : AnsweredRun → Type 0
  Reads run = IsSoundText (begun_text full run.ending.dialog) run.desc

  all_good : (ds : List Dialog) (given : List Answer) → ((place : ℕ) (dialog : Dialog) (answer : Answer) → slice_get ds place ≡ Some dialog → slice_get given place ≡ Some answer → Good (dialog, answer)) → AllByRecursion Good (zip ds given)
  all_good [] given good = tt
  all_good (dialog ∷ ds) [] good = tt
  all_good (dialog ∷ ds) (answer ∷ given) good = (good 0 dialog answer refl refl, all_good ds given (λ place. good (suc place)))

  one_ends : (run : AnsweredRun) (runs : List AnsweredRun) (command : Command) (text : List ℕ) (texts : List (List ℕ)) → run.ending.command ≡ command → EndsSo run.desc command text → EndSo runs texts → EndSo (run ∷ runs) (text ∷ texts)
  one_ends run runs command text texts same ends rest =
      let here : EndsSo run.desc run.ending.command text = subst (λ (c : Command). EndsSo run.desc c text) (sym same) ends in
      record {
        ended = find-goes_on run runs (ap is_some here.closed) ∙ rest.ended;
        written = ap (λ bs. bs ∷ map (λ (x : AnsweredRun). logged (after_end x)) runs) here.written ∙ ap (λ more. text ∷ more) rest.written;
      }

  -- a dialog that is answered, before others
  with_end : (dialog : Dialog) (answer : Answer) (pairs : List (Dialog × Answer)) → Good (dialog, answer)
      → ((runs : List AnsweredRun) → map (λ run. run.ending) runs ≡ filter_map ending_of pairs → All Reads runs → EndSo runs (filter_map (end_text_of d) pairs))
      → (runs : List AnsweredRun) (command : Command) → answer.command ≡ Some command → map (λ run. run.ending) runs ≡ record { dialog = dialog_name dialog; command = command } ∷ filter_map ending_of pairs → All Reads runs
      → EndSo runs (log_text d (end_lines dialog command.0 answer.entries) ∷ filter_map (end_text_of d) pairs)
  with_end dialog answer pairs good later [] command is same reads = absurd cc
  with_end dialog answer pairs good later (run ∷ runs) command is same reads =
      let own : run.ending ≡ record { dialog = dialog_name dialog; command = command } = cc in
      let more : map (λ (x : AnsweredRun). x.ending) runs ≡ filter_map ending_of pairs = cc in
      let text : IsSoundText (begun_text full (dialog_name dialog)) run.desc = subst (λ (x : Ending). IsSoundText (begun_text full x.dialog) run.desc) own (All-head Reads run runs reads) in
      one_ends run runs command (log_text d (end_lines dialog command.0 answer.entries)) (filter_map (end_text_of d) pairs) (ap (λ (x : Ending). x.command) own) (good command run.desc is text)
      (later runs more (All-tail Reads run runs reads))

  all_end : (pairs : List (Dialog × Answer)) → AllByRecursion Good pairs → (runs : List AnsweredRun) → map (λ run. run.ending) runs ≡ filter_map ending_of pairs → All Reads runs → EndSo runs (filter_map (end_text_of d) pairs)
  all_end [] good [] same reads = record { ended = refl; written = refl }
  all_end [] good (run ∷ runs) same reads = absurd cc
  all_end ((dialog, answer) ∷ pairs) good runs same reads =
      option_cases answer.command
      (λ o. answer.command ≡ o → map (λ run. run.ending) runs ≡ cons_option (option_map (λ command. record { dialog = dialog_name dialog; command = command }) o) (filter_map ending_of pairs)
      → EndSo runs (cons_option (option_map (λ command. log_text d (end_lines dialog command.0 answer.entries)) o) (filter_map (end_text_of d) pairs)))
      (λ none is e. all_end pairs good.1 runs e reads) (λ command some is e. with_end dialog answer pairs good.0 (all_end pairs good.1) runs command is e reads) refl same

-- ---- what comes of it

module _ (d : Desc) (can : CanBeSpelled d) (sound : IsSound d) (script : List Item) (has : TypesCharacters script) where
  abbrev a : Answers
  a = answers_of_run d script

  abbrev written : List ℕ
  written = output (started d) script

  read : answers_in d written ≡ Some a
  read = log_is_read d can sound script has

  only : (given : Answers) → answers_in d written ≡ Some given → given ≡ a
  only given is = (let both : Some given ≡ Some a = sym is ∙ read in cc)

  end_so : (runs : List AnsweredRun) → AreRuns (filled d a) (endings_of d a) runs → EndSo runs (end_texts d a)
  end_so runs begun =
      all_end d (filled d a) (zip d.dialogs a.dialogs)
      (all_good d (filled d a) d.dialogs a.dialogs (λ place dialog answer there given command e is text. end_again d can sound script place dialog answer command e has there given is text.spelled text.sound))
      runs begun.ends begun.begun

  none_open : (runs : List AnsweredRun) (ending : Ending) (allowed : Bool) → AreRuns (filled d a) (endings_of d a) runs → StaysOpen ending allowed runs → ⊥
  none_open runs ending allowed begun stays = (let both : None ≡ Some stays.run = sym (end_so runs begun).ended ∙ stays.first in absurd cc)

  fault_long : (fault : AnswersFault) → RefusesAnswers d written fault → fault ≢ answers.NoMemory → 1048576 < length written
  fault_long answers.NoMemory refuses other = absurd (other refl)
  fault_long (answers.Syntax line) refuses other = absurd (unanswered d (lines_of written) line a refuses.1.stops read)
  fault_long answers.TooLong refuses other = refuses

  module _ (Mismade : Desc → Type 0) (name : List ℕ) (old new : Written) where
    comes : (result : Result (Unit {0}) AnswerFault) → AnswersTo Mismade name d written old new result → ComesAgain d a written old new result
    comes (Ok x) to =
        let same : to.answers ≡ a = only to.answers to.fit.answered.answered in
        let begun : AreRuns (filled d a) (endings_of d a) to.runs = subst (λ (given : Answers). AreRuns (filled d given) (endings_of d given) to.runs) same to.begun in
        record { runs = to.runs; begun = begun; ends = end_so to.runs begun; logs = to.logs }
    comes (Err (fails.Disabled ending)) to =
        none_open to.runs ending false (subst (λ (given : Answers). AreRuns (filled d given) (endings_of d given) to.runs) (only to.answers to.fit.answered.answered) to.begun) to.comes
    comes (Err (fails.Refused ending)) to =
        none_open to.runs ending true (subst (λ (given : Answers). AreRuns (filled d given) (endings_of d given) to.runs) (only to.answers to.fit.answered.answered) to.begun) to.comes
    comes (Err fails.Misfits) to = to.2 (ap (λ (given : Answers). given.misfits) (only to.0 to.1.answered))
    comes (Err fails.NoAnswers) to = subst (λ (given : Answers). endings_of d given ≡ []) (only to.0 to.1.answered) to.3
    comes (Err (fails.Answers fault)) to = fault_long fault to.0.0 to.0.1
    comes (Err (fails.Run fault)) to = tt
    comes (Err fails.Write) to = tt

pub run_comes_again : (Mismade : Desc → Type 0) (d : Desc) → CanBeSpelled d → IsSound d → RunsComeAgain Mismade d
run_comes_again Mismade d can sound name script old new result has to = comes d can sound script has Mismade name old new result to
