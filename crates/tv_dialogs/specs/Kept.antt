-- What is kept of a dialog, whether it is open or not.
use Rattle.std.specs.Prelude.{◌≡◌, ◌==◌, ◌&&◌, Bool, true, false, not, List, [], Option, Some, None}
use Rattle.std.specs.Prelude.{unwrap_or}
use Rattle.std.specs.Prelude.{if◌then◌else◌}
use Rattle.tv_event.specs.Commands.{cm_cancel}
use Rattle.tv_event.specs.declared.event.Command.{Command}
use Rattle.tv_event.specs.declared.event.Event.{Event}
use Rattle.tv_event.specs.declared.event.Event.TheVariants as events
use Rattle.tv_model.specs.declared.node.Id.{Id}
use Rattle.tv_model.specs.declared.desc.Dialog.{Dialog}
use Rattle.tv_view.specs.Meaning.{Leaf}
use Rattle.tv_model.specs.Log.Record.{Entries}
use Rattle.tv_machine.specs.Dialog.Ending.{fields_of}
use Rattle.tv_machine.specs.Dialog.Focus.{is_free_at}
use Rattle.tv_machine.specs.Dialog.Lawful.{IsLawfulDialog}
use Rattle.tv_machine.specs.Dialog.Modal.{Modal}
use Rattle.tv_machine.specs.Dialog.Opening.{opened_leaves}
use Rattle.tv_machine.specs.Dialog.Shortcuts.{HaveOneMarker}
use Rattle.tv_group.specs.Calls.{all_gathered, any_holds}
use Rattle.tv_group.specs.Opened.{opened}
use Rattle.tv_group.specs.Ready.{HoldsLeaf}
use Rattle.tv_dialog.specs.Resting.{Rests}
use Rattle.tv_dialog.specs.Standing.{Stands}
use Rattle.tv_dialog.specs.declared.dialog.DialogOf.{DialogOf}
use Rattle.tv_dialogs.specs.declared.kept.Kept.{Kept}

-- what a dialog opens with: the record that its last end saved, else its declared values
abbrev pub first_values : Dialog → Option Entries → Entries
first_values d saved = unwrap_or saved (fields_of (opened_leaves d None))

-- a dialog is kept where its last end saved this, if it did, and typing overwrites in these inputs
pub record IsKeptAs {V : Type 0} (look : V → Leaf) (d : Dialog) (saved : Option Entries)
    (overwriting : List Id) (kept : Kept V) : Type 0 where
  pub values : kept.values ≡ first_values d saved
  -- the machine's dialog as it rests, which may be open
  pub modal : Modal
  pub overwrites : modal.overwriting ≡ overwriting
  pub rests : Rests look d modal kept.dialog

-- the dialog stands as the machine's open one, of which an event may be made something
pub record IsReady {V : Type 0} (look : V → Leaf) (d : Dialog) (m : Modal)
    (dialog : DialogOf V) : Type 0 where
  pub lawful : IsLawfulDialog d
  pub going : dialog.is_open ≡ true
  pub leaf : HoldsLeaf d m
  pub focus : is_free_at d m.leaves m.focus ≡ true
  pub markers : HaveOneMarker d m.leaves
  pub stands : Stands look d m.leaves m dialog

-- whether a dialog that ended so keeps its values: not one that is open, or ended by `cancel`
abbrev pub saves : Option Command → Bool
saves None = false
saves (Some command) = not (command.0 == cm_cancel)

-- what it opens with next: its values once it has ended, unless by `cancel`
abbrev pub values_after : {V : Type 0} → (V → Leaf) → Entries → DialogOf V → Entries
values_after look values dialog =
    if saves dialog.ended then all_gathered (opened look dialog.body) [] else values

-- ---- the mouse

-- whether a view may hold the mouse after an event: only a mouse down lets one take it
abbrev pub may_hold : Bool → Event → Bool
may_hold held (events.Down p) = true
may_hold held _ = held

-- whether a view of an open dialog holds the mouse after an event
abbrev pub holds_after : {V : Type 0} → (V → Leaf) → Bool → Event → DialogOf V → Bool
holds_after look held e dialog = dialog.is_open && may_hold held e && any_holds (opened look dialog.body)
