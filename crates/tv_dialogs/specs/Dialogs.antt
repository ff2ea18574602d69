-- The dialogs of a run, where the machine's state is this.
use Rattle.std.specs.Prelude.{◌≡◌, ◌<◌, ℕ, true, false, List, [], length, Option, Some, None, option_map}
use Rattle.std.specs.Prelude.{is_some, slice_get, slice_index_or}
use Rattle.std.specs.Option.{option_and_then}
use Rattle.tv_model.specs.declared.desc.Desc.{Desc}
use Rattle.tv_model.specs.declared.desc.Dialog.{Dialog}
use Rattle.tv_model.specs.declared.log.LogLine.{LogLine}
use Rattle.tv_view.specs.Meaning.{Leaf}
use Rattle.tv_faces.specs.Corners.{IsCorner}
use Rattle.tv_machine.specs.State.{OpenDialog, State}
use Rattle.tv_machine.specs.Dialog.Modal.{Modal}
use Rattle.tv_machine.specs.Session.Commands.{modal_of, overwriting_at, saved_at}
use Rattle.tv_machine.specs.Session.Step.{dialog_with_hold}
use Rattle.tv_laws.specs.Runs.{HasSoundDialogs, IsFitState}
use Rattle.tv_dialog.specs.Standing.{Stands}
use Rattle.tv_dialogs.specs.Kept.{IsKeptAs}
use Rattle.tv_dialogs.specs.declared.kept.Kept.{Kept}
use Rattle.tv_dialogs.specs.declared.dialogs.DialogsOf.{DialogsOf}

-- the open dialog at work, once it has logged these lines
abbrev pub at_work : State → OpenDialog → List LogLine → Modal
at_work s o log = record (modal_of s o) { log = log }

-- the dialog at the open one's place stands as the machine's does, with its sheet, and where it does, which
-- is near the screen
pub record IsOpenAmong {V : Type 0} (look : V → Leaf) (d : Desc) (s : State) (o : OpenDialog)
    (all : List (Kept V)) : Type 0 where
  pub dialog : Dialog
  pub there : slice_get d.dialogs o.place ≡ Some dialog
  pub kept : Kept V
  pub found : slice_get all o.place ≡ Some kept
  pub stands : Stands look dialog o.leaves (at_work s o kept.dialog.log.items) kept.dialog
  pub corner : kept.dialog.corner ≡ o.origin
  pub sheet : kept.dialog.sheet ≡ o.sheet
  pub near : IsCorner o.origin

-- the dialogs of the description, with what their last ends saved and where typing overwrites, and which is
-- open. Nothing else
-- of the state is looked at
pub record AreDialogs {V : Type 0} (look : V → Leaf) (d : Desc) (s : State)
    (dialogs : DialogsOf V) : Type 0 where
  pub count : length dialogs.kept.items ≡ length d.dialogs
  pub saved : length s.saved ≡ length d.dialogs
  pub overwriting : length s.overwriting ≡ length d.dialogs
  pub kept : (place : ℕ) (dialog : Dialog) (k : Kept V) → slice_get d.dialogs place ≡ Some dialog
      → slice_get dialogs.kept.items place ≡ Some k
      → IsKeptAs look dialog (saved_at s place) (overwriting_at s place) k
  pub place : dialogs.open ≡ option_map (λ o. o.place) s.dialog
  pub held : dialogs.is_held ≡ is_some (dialog_with_hold s.dialog)
  pub at : (o : OpenDialog) → s.dialog ≡ Some o → IsOpenAmong look d s o dialogs.kept.items
  pub commands : (number : ℕ) → number < 256 → slice_index_or dialogs.commands number false ≡ true

-- ---- what is asked of them

-- the one at a place, if it is told
abbrev pub kept_at : {V : Type 0} → DialogsOf V → Option ℕ → Option (Kept V)
kept_at dialogs place = option_and_then (slice_get dialogs.kept.items) place

-- the lines of a dialog, if there is one
abbrev pub lines_by : {V : Type 0} → Option (Kept V) → List LogLine
lines_by None = []
lines_by (Some kept) = kept.dialog.log.items

-- the lines of the dialog that worked last
abbrev pub log_of_last : {V : Type 0} → DialogsOf V → List LogLine
log_of_last dialogs = lines_by (kept_at dialogs dialogs.last)

-- ---- what calls rely on

-- they are those of some state of a run
pub record AreOfRun {V : Type 0} (look : V → Leaf) (d : Desc) (s : State)
    (dialogs : DialogsOf V) : Type 0 where
  pub sound : HasSoundDialogs d
  pub fit : IsFitState d s
  pub are : AreDialogs look d s dialogs

-- and the description has a dialog at the place
pub record MayOpen {V : Type 0} (look : V → Leaf) (d : Desc) (place : ℕ)
    (dialogs : DialogsOf V) : Type 0 where
  pub state : State
  pub run : AreOfRun look d state dialogs
  pub there : place < length d.dialogs

-- ---- what dialogs leave

-- one state has all of another but its dialogs, what is kept of them, and the log
pub record IsAside (s t : State) : Type 0 where
  pub windows : t.windows ≡ s.windows
  pub menu : t.menu ≡ s.menu
  pub over : t.is_over ≡ s.is_over
  pub frame : t.frame ≡ s.frame
