-- What runs keep: events, commands that the program gives, and records that it hands in.
use Rattle.std.specs.Prelude.{◌≡◌, ℕ, false, List, length, slice_get, slice_set, Some, None, All}
use Rattle.tv_event.specs.declared.event.Event.{Event}
use Rattle.tv_model.specs.declared.node.Id.{Id}
use Rattle.tv_model.specs.declared.desc.Desc.{Desc}
use Rattle.tv_model.specs.declared.desc.Dialog.{Dialog}
use Rattle.tv_model.specs.Description.Rectangles.{corner_of}
use Rattle.tv_model.specs.Log.Record.{Entries}
use Rattle.tv_machine.specs.State.{State, OpenDialog, HeldFrame}
use Rattle.tv_machine.specs.Session.Commands.{modal_of}
use Rattle.tv_machine.specs.Output.{states}
use Rattle.tv_machine.specs.Session.Start.{start}
use Rattle.tv_machine.specs.Session.Step.{give_command, step}
pub use Rattle.tv_machine.specs.Dialog.Sound.{HasSoundDialogs}
use Rattle.tv_machine.specs.Safe.{HasDeclaredEnd, HasTopCell, IsFitOverwriting, IsSafe, IsSafeFrame, IsSafeSaved}
use Rattle.tv_laws.specs.Fit.{IsFitModal}

-- the open dialog is one of the description and can be used, no menu is open, and its top row can be seen,
-- if it can where the dialog is declared
pub record IsFitOpen (d : Desc) (s : State) (o : OpenDialog) : Type 0 where
  pub dialog : Dialog
  pub there : slice_get d.dialogs o.place ≡ Some dialog
  pub fit : IsFitModal dialog (modal_of s o)
  pub menu : s.menu ≡ None
  pub over : s.is_over ≡ false
  pub top : HasTopCell d (corner_of dialog.node) dialog.node.w → HasTopCell d o.origin dialog.node.w

-- ---- fit states

-- saved records are safe, of each dialog one at most; the inputs in which typing overwrites stand in order;
-- and dialogs end as they declare
pub record IsKept (d : Desc) (s : State) : Type 0 where
  pub saved : (place : ℕ) (entries : Entries) → slice_get s.saved place ≡ Some (Some entries)
      → IsSafeSaved d place entries
  pub records : length s.saved ≡ length d.dialogs
  pub places : length s.overwriting ≡ length d.dialogs
  pub ordered : (place : ℕ) (ids : List Id) → slice_get s.overwriting place ≡ Some ids
      → IsFitOverwriting d place ids
  pub ends : All (HasDeclaredEnd d) s.log

-- what runs keep, so that they stay safe
pub record IsFitState (d : Desc) (s : State) : Type 0 where
  pub kept : IsKept d s
  pub «open» : (o : OpenDialog) → s.dialog ≡ Some o → IsFitOpen d s o
  pub frame : (frame : HeldFrame) → s.frame ≡ Some frame → IsSafeFrame d s frame

-- ---- what comes next

-- the state after an event, or after a command that the program gives
pub data IsNext (d : Desc) (s after : State) : Type 0 where
  by_event : (e : Event) → after ≡ step d s e → IsNext d s after
  by_command : (number : ℕ) → after ≡ give_command d s number → IsNext d s after

-- the state in which the last end of the dialog at a place saved this record
abbrev pub with_saved : ℕ → Entries → State → State
with_saved place entries s = record s { saved = slice_set s.saved place (Some entries) }

-- the state to which a run has come after these events
abbrev pub state_after : Desc → List Event → State
state_after d events = states (step d) (start d) events

-- ---- the laws

-- a run starts fit
abbrev pub StartsFit : Desc → Type 0
StartsFit d = IsFitState d (start d)

-- what comes next of a fit state is fit
abbrev pub RunsFit : Desc → Type 0
RunsFit d = (s after : State) → IsFitState d s → IsNext d s after → IsFitState d after

-- so is a fit state in which a dialog is given a record that it may save
abbrev pub RecordsFit : Desc → Type 0
RecordsFit d =
    (s : State) (place : ℕ) (entries : Entries) → IsFitState d s → IsSafeSaved d place entries
    → IsFitState d (with_saved place entries s)

-- so each state that events lead to is fit
abbrev pub ReachesFit : Desc → Type 0
ReachesFit d = (events : List Event) → IsFitState d (state_after d events)

-- and a fit state is safe
abbrev pub FitIsSafe : Desc → Type 0
FitIsSafe d = (s : State) → IsFitState d s → IsSafe d s
