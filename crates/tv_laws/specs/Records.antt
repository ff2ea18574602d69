-- What is logged and saved of a dialog that ends, and what the dialog shows when it opens again.
use Rattle.std.specs.Prelude.{◌≡◌, ◌⊎◌, ℕ, true, false, List, ◌∷◌, ◌++◌, map, filter, filter_map, slice_get}
use Rattle.std.specs.Prelude.{slice_set, Option, Some, None, option_map, All, ◌==◌}
use Rattle.tv_event.specs.Commands.{cm_cancel}
use Rattle.tv_model.specs.declared.node.Id.{Id}
use Rattle.tv_model.specs.declared.desc.Desc.{Desc}
use Rattle.tv_model.specs.declared.desc.Dialog.{Dialog}
use Rattle.tv_model.specs.declared.record.Entry.{Entry}
use Rattle.tv_model.specs.declared.log.LogLine.{LogLine}
use Rattle.tv_model.specs.declared.log.LogLine.TheVariants as lines
use Rattle.tv_model.specs.Description.Commands.{is_end}
use Rattle.tv_model.specs.Description.Heads.{dialog_head}
use Rattle.tv_model.specs.Log.Record.{Entries}
use Rattle.tv_machine.specs.Controls.Declared.{declared_value}
use Rattle.tv_machine.specs.State.{OpenDialog, State}
use Rattle.tv_machine.specs.Leaves.{PlacedNode, leaf_list}
use Rattle.tv_machine.specs.Dialog.Ending.{field_line, fields_of}
use Rattle.tv_machine.specs.Dialog.Opening.{opened_dialog}
use Rattle.tv_machine.specs.Dialog.Rules.{is_among}
use Rattle.tv_machine.specs.Safe.{HasDeclaredEnd, IsSafeRecord, field_ids}
use Rattle.tv_machine.specs.Session.Commands.{saved_at}
use Rattle.tv_machine.specs.Session.Start.{start}
use Rattle.tv_machine.specs.Session.Step.{with_empty_log}
use Rattle.tv_laws.specs.Runs.{IsFitState, IsNext}
use Rattle.tv_laws.specs.Steps.{IsSafeSave}

-- ---- ends

-- each `end` line in the log of a fit state names a dialog of the description and a command that it declares
abbrev pub EndsAsDeclared : Desc → Type 0
EndsAsDeclared d = (s : State) → IsFitState d s → All (HasDeclaredEnd d) s.log

-- each dialog declares `cancel`
abbrev pub DeclareCancel : Desc → Type 0
DeclareCancel d = All (λ dialog. is_end (dialog_head dialog).ends cm_cancel ≡ true) d.dialogs

-- ---- records

-- the line isn't that of an end
abbrev pub IsNoEnd : LogLine → Type 0
IsNoEnd (lines.End i command) = ⊥
IsNoEnd _ = Unit {0}

-- the lines of an end by a command, and of the fields after it
abbrev pub end_lines : Dialog → ℕ → Entries → List LogLine
end_lines dialog number entries = lines.End dialog.node.id (record { 0 = number }) ∷ map field_line entries

-- the last lines of a log are these, and there is no end before them
pub record LogEndsWith (log last : List LogLine) : Type 0 where
  pub before : List LogLine
  pub endless : All IsNoEnd before
  pub written : log ≡ before ++ last

-- no end is logged, what was saved of dialogs stays as it was, and a dialog that was open stays open
pub record IsEndless (s after : State) : Type 0 where
  pub log : All IsNoEnd after.log
  pub saved : after.saved ≡ s.saved
  pub stays : (o : OpenDialog) → s.dialog ≡ Some o → option_map (λ now. now.place) after.dialog ≡ Some o.place

-- the entries are those of exactly the dialog's fields, each within its domain; they are saved of the dialog
-- at the place, and what
-- was saved of others stays as it was
pub record IsSavedAt (place : ℕ) (dialog : Dialog) (entries : Entries) (s after : State) : Type 0 where
  pub safe : IsSafeRecord dialog entries
  pub set : after.saved ≡ slice_set s.saved place (Some entries)
  pub there : saved_at after place ≡ Some entries

-- the open dialog ends by a command: the log ends with that and with all its fields, as they stood, and these
-- are saved, unless the
-- command is `cancel`: then what was saved stays as it was
pub record IsEnd (d : Desc) (s after : State) : Type 0 where
  pub «open» : OpenDialog
  pub was : s.dialog ≡ Some «open»
  pub closed : after.dialog ≡ None
  pub dialog : Dialog
  pub there : slice_get d.dialogs «open».place ≡ Some dialog
  pub number : ℕ
  pub declared : is_end (dialog_head dialog).ends number ≡ true
  pub fields : map (λ entry. entry.id) (fields_of «open».leaves) ≡ field_ids dialog
  pub logged : LogEndsWith after.log (end_lines dialog number (fields_of «open».leaves))
  pub cancelled : (number == cm_cancel) ≡ true → after.saved ≡ s.saved
  pub saved : (number == cm_cancel) ≡ false → IsSavedAt «open».place dialog (fields_of «open».leaves) s after

-- what comes next of a fit state logs no end, saves nothing and closes no dialog, or it ends the open dialog
-- and saves what it logs
abbrev pub SavesWhatItLogs : Desc → Type 0
SavesWhatItLogs d =
    (s after : State) → IsFitState d s → IsNext d s after → IsEndless s after ⊎ IsEnd d s after

-- ---- opening

-- the entry of a leaf as it is declared, if it is a field
abbrev pub declared_entry : PlacedNode → Option Entry
declared_entry leaf =
    option_map (λ value. record { id = leaf.node.id; value = value }) (declared_value leaf.node.kind)

-- the record that a dialog shows as it opens: the saved one, and where none is saved what is declared
abbrev pub opened_record : Dialog → Option Entries → Entries
opened_record dialog None = filter_map declared_entry (leaf_list dialog.views)
opened_record dialog (Some entries) = entries

-- the open dialog is one of the description, and its fields show what was saved of it
pub record ShowsSaved (d : Desc) (s : State) (o : OpenDialog) : Type 0 where
  pub dialog : Dialog
  pub there : slice_get d.dialogs o.place ≡ Some dialog
  pub shown : fields_of o.leaves ≡ opened_record dialog (saved_at s o.place)

-- a dialog opens with its saved record, which is safe, and where none is saved with what is declared
abbrev pub OpensAsSaved : Dialog → Type 0
OpensAsSaved dialog =
    (saved : Option Entries) (overwriting : List Id) → IsSafeSave dialog saved
    → overwriting ≡ filter (is_among overwriting) (map (λ view. view.id) dialog.views)
    → fields_of (opened_dialog dialog saved overwriting).leaves ≡ opened_record dialog saved

-- a dialog that opens next of a fit state shows what was saved of it
abbrev pub ReopensAsSaved : Desc → Type 0
ReopensAsSaved d =
    (s after : State) (o : OpenDialog) → IsFitState d s → IsNext d s after → s.dialog ≡ None
    → after.dialog ≡ Some o → ShowsSaved d s o

-- the dialog that is open at the start shows what is declared: nothing is saved yet
abbrev pub StartsAsDeclared : Desc → Type 0
StartsAsDeclared d =
    (o : OpenDialog) → (start d).dialog ≡ Some o
    → ShowsSaved d (start d) o × (saved_at (start d) o.place ≡ None)

-- ---- after the end

-- once a run is over nothing comes next: its log is taken, and the rest stays as it is
abbrev pub StaysOver : Desc → Type 0
StaysOver d = (s after : State) → s.is_over ≡ true → IsNext d s after → after ≡ with_empty_log s
