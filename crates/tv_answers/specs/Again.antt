-- What a log comes to where it is answered: the ends of its run, given again.
use Rattle.std.specs.Prelude.{◌≡◌, ℕ, List, slice_get, Some, None}
use Rattle.tv_declarations.specs.CanonicalDescription.{description_text}
use Rattle.tv_event.specs.declared.event.Command.{Command}
use Rattle.tv_lang.specs.Faults.{Spells}
use Rattle.tv_model.specs.declared.desc.Desc.{Desc}
use Rattle.tv_model.specs.declared.desc.Dialog.{Dialog}
use Rattle.tv_model.specs.Description.Certificates.{dialog_name}
use Rattle.tv_model.specs.Faults.{IsSound}
use Rattle.tv_model.specs.Log.LogText.{log_text}
use Rattle.tv_machine.specs.declared.script.Item.{Item}
use Rattle.tv_machine.specs.Run.{Session, commanded, quiet, started}
use Rattle.tv_laws.specs.Records.{end_lines}
use Rattle.tv_answers.specs.declared.answers.Answer.{Answer}
use Rattle.tv_answers.specs.Filling.{filled}
use Rattle.tv_answers.specs.Laws.{TypesCharacters, answers_of_run}

-- ---- a dialog that is given an end

-- the description, with the dialog of a name open at the start
abbrev pub begun_with : Desc → List ℕ → Desc
begun_with d name = record d { start = Some name }

-- its text
abbrev pub begun_text : Desc → List ℕ → List ℕ
begun_text d name = description_text (begun_with d name)

-- the dialog that is open at the start is given an end, after what the start logged was taken
abbrev pub given_end : Desc → Command → Session
given_end e command = commanded (quiet (started e)) command

-- it ends by that, and logs this
pub record EndsSo (e : Desc) (command : Command) (text : List ℕ) : Type 0 where
  pub closed : (given_end e command).state.dialog ≡ None
  pub written : log_text e (given_end e command).state.log ≡ text

-- ---- the ends of a run

-- Where the answers of a run have a command for a dialog, the description that is filled with them and has the dialog
-- open, however its text is read, ends the dialog by that command, and logs that with the record that the run saved
abbrev pub EndAgain : Desc → Type 0
EndAgain d =
    (script : List Item) (place : ℕ) (dialog : Dialog) (answer : Answer) (command : Command) (e : Desc)
    → TypesCharacters script → slice_get d.dialogs place ≡ Some dialog
    → slice_get (answers_of_run d script).dialogs place ≡ Some answer → answer.command ≡ Some command
    → Spells (begun_text (filled d (answers_of_run d script)) (dialog_name dialog)) e → IsSound e
    → EndsSo e command (log_text d (end_lines dialog command.0 answer.entries))
