-- What answers and logs come to, as laws.
use lib.Utf8.{scalar, scalars}
use Rattle.std.specs.Prelude.{◌≡◌, ℕ, true, not, ◌&&◌, List, [], ◌∷◌, ◌++◌, slice_get, Option, Some, None, unwrap_or, All, IsTrue}
use Rattle.std.specs.Prelude.{◌==◌, if◌then◌else◌}
use Rattle.std.specs.Option.{option_or}
use Rattle.tv_event.specs.Commands.{cm_cancel}
use Rattle.tv_event.specs.declared.event.Command.{Command}
use Rattle.tv_event.specs.declared.event.Event.{Event}
use Rattle.tv_event.specs.declared.event.Event.TheVariants as events
use Rattle.tv_event.specs.declared.event.Key.{Key}
use Rattle.tv_event.specs.declared.event.Key.TheVariants as keys
use Rattle.tv_model.specs.declared.desc.Desc.{Desc}
use Rattle.tv_model.specs.declared.desc.Dialog.{Dialog}
use Rattle.tv_model.specs.declared.log.LogLine.{LogLine}
use Rattle.tv_model.specs.declared.log.LogLine.TheVariants as lines
use Rattle.tv_model.specs.declared.node.Id.{Id}
use Rattle.tv_model.specs.declared.record.Value.{Value}
use Rattle.tv_model.specs.declared.record.Value.TheVariants as values
use Rattle.tv_model.specs.Description.Commands.{is_end}
use Rattle.tv_model.specs.Description.Heads.{dialog_head}
use Rattle.tv_model.specs.Log.LogText.{log_text}
use Rattle.tv_model.specs.Log.Record.{Entries}
use Rattle.tv_machine.specs.Dialog.Opening.{opened_leaves}
use Rattle.tv_machine.specs.declared.script.Item.{Item}
use Rattle.tv_machine.specs.declared.script.Item.TheVariants as items
use Rattle.tv_machine.specs.Output.{after, output}
use Rattle.tv_machine.specs.Run.{started}
use Rattle.tv_machine.specs.Safe.{IsSafeRecord}
use Rattle.tv_machine.specs.Session.Start.{start}
use Rattle.tv_machine.specs.Session.Step.{step}
use Rattle.tv_machine.specs.State.{State}
use Rattle.tv_laws.specs.Records.{end_lines}
use Rattle.tv_answers.specs.declared.answers.Answer.{Answer}
use Rattle.tv_answers.specs.declared.answers.Answers.{Answers}
use Rattle.tv_answers.specs.Filling.{filled}
use Rattle.tv_answers.specs.ReadLogs.{answers_in, changed_at, no_answers}

-- ---- opening

-- the dialog at a place of the filled description opens without a saved record as the declared one does with its
-- answers as that record: a field has its answer, else the declared value
pub record OpensAsAnswered (d : Desc) (a : Answers) (place : ℕ) (dialog : Dialog) : Type 0 where
  pub answer : Answer
  pub answered : slice_get a.dialogs place ≡ Some answer
  pub begun : Dialog
  pub there : slice_get (filled d a).dialogs place ≡ Some begun
  pub leaves : opened_leaves begun None ≡ opened_leaves dialog (Some answer.entries)

-- so does each dialog with what a log answers
abbrev pub OpenAsAnswered : Desc → List ℕ → Type 0
OpenAsAnswered d text =
    (a : Answers) (place : ℕ) (dialog : Dialog) → answers_in d text ≡ Some a
    → slice_get d.dialogs place ≡ Some dialog → OpensAsAnswered d a place dialog

-- ---- ends

-- a text is of characters: each of its numbers is that of one
abbrev pub HasCharacters : Value → Type 0
HasCharacters (values.Text text) = IsTrue (scalars text)
HasCharacters _ = Unit {0}

-- what a dialog saves that ends by a command
abbrev pub answer_saved : ℕ → Entries → Answer
answer_saved number entries = record { command = Some (record { 0 = number }); entries = entries }

-- what the end of the dialog at a place by a command saves: nothing where that cancels
abbrev pub answers_saved : Desc → ℕ → ℕ → Entries → Answers
answers_saved d place number entries =
    if number == cm_cancel then no_answers d
    else record (no_answers d) {
      dialogs = changed_at place (λ answer. answer_saved number entries) (no_answers d).dialogs;
    }

-- what a dialog logs of its end by a command that it declares, with a record that it may save, answers what is
-- saved then
abbrev pub EndsAreRead : Desc → Type 0
EndsAreRead d =
    (place : ℕ) (dialog : Dialog) (number : ℕ) (entries : Entries) → slice_get d.dialogs place ≡ Some dialog
    → is_end (dialog_head dialog).ends number ≡ true → IsSafeRecord dialog entries
    → All (λ entry. HasCharacters entry.value) entries
    → answers_in d (log_text d (end_lines dialog number entries)) ≡ Some (answers_saved d place number entries)

-- ---- runs

-- the lines that a run logs for items from a state on
abbrev pub lines_after : Desc → State → List Item → List LogLine
lines_after d s [] = []
lines_after d s (items.Event e ∷ rest) = (step d s e).log ++ lines_after d (step d s e) rest
lines_after d s (items.Shot ∷ rest) = lines_after d s rest
lines_after d s (items.Colors ∷ rest) = lines_after d s rest

-- all lines that it logs
abbrev pub logged : Desc → List Item → List LogLine
logged d script = (start d).log ++ lines_after d (start d) script

-- a key types a character, if it types: the numbers in a definition may be any
abbrev pub KeyTypes : Key → Type 0
KeyTypes (keys.Char ch) = IsTrue (scalar ch)
KeyTypes _ = Unit {0}

-- an event does
abbrev pub EventTypes : Event → Type 0
EventTypes (events.Key k) = KeyTypes k
EventTypes _ = Unit {0}

-- an item of a script does, as each does that was read
abbrev pub IsTyped : Item → Type 0
IsTyped (items.Event e) = EventTypes e
IsTyped _ = Unit {0}

-- all items of a script do
abbrev pub TypesCharacters : List Item → Type 0
TypesCharacters script = All IsTyped script

-- the command by which a line ends the dialog, unless that cancels
abbrev pub saving_end : Id → LogLine → Option Command
saving_end i (lines.End other command) =
    if (other.0 == i.0) && not (command.0 == cm_cancel) then Some command else None
saving_end i _ = None

-- that of the last line that has one
abbrev pub last_end : Id → List LogLine → Option Command
last_end i [] = None
last_end i (line ∷ rest) = option_or (last_end i rest) (saving_end i line)

-- of each dialog the command of its last end, and its saved record
abbrev pub dialogs_saved : List LogLine → List Dialog → List (Option Entries) → List Answer
dialogs_saved log (dialog ∷ dialogs) (saved ∷ rest) =
    record { command = last_end dialog.node.id log; entries = unwrap_or saved [] } ∷ dialogs_saved log dialogs rest
dialogs_saved log _ _ = []

-- what a run saved for a script in the end, each dialog with the command of its last end but `cancel`
abbrev pub answers_of_run : Desc → List Item → Answers
answers_of_run d script = record {
  dialogs = dialogs_saved (logged d script) d.dialogs (after (started d) script).state.saved;
  misfits = [];
}

-- what it writes answers just that, without a misfit
abbrev pub LogIsRead : Desc → Type 0
LogIsRead d =
    (script : List Item) → TypesCharacters script
    → answers_in d (output (started d) script) ≡ Some (answers_of_run d script)
