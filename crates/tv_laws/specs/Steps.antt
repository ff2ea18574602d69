-- What each event makes of a dialog.
use Rattle.std.specs.Prelude.{◌≡◌, List, map, filter, Option, Some, None}
use Rattle.tv_event.specs.declared.event.Event.{Event}
use Rattle.tv_event.specs.declared.event.Event.TheVariants as events
use Rattle.tv_model.specs.declared.node.Id.{Id}
use Rattle.tv_model.specs.declared.desc.Dialog.{Dialog}
use Rattle.tv_model.specs.Log.Record.{Entries}
use Rattle.tv_machine.specs.State.{Held}
use Rattle.tv_machine.specs.Dialog.Modal.{Modal}
use Rattle.tv_machine.specs.Dialog.Opening.{opened_dialog}
use Rattle.tv_machine.specs.Dialog.Rules.{is_among}
use Rattle.tv_machine.specs.Dialog.Step.{dialog_step}
use Rattle.tv_machine.specs.Safe.{IsSafeRecord}
use Rattle.tv_laws.specs.Ends.{IsDone, IsOpen}

-- ---- opening

-- a saved record, if there is one, is safe
abbrev pub IsSafeSave : Dialog → Option Entries → Type 0
IsSafeSave d saved = (entries : Entries) → saved ≡ Some entries → IsSafeRecord d entries

-- a dialog opens as it must be, with nothing saved or a safe record: its focus is free, and nothing holds the
-- mouse
abbrev pub OpensFit : Dialog → Type 0
OpensFit d =
    (saved : Option Entries) (overwriting : List Id) → IsSafeSave d saved
    → overwriting ≡ filter (is_among overwriting) (map (λ view. view.id) d.views)
    → IsOpen d (opened_dialog d saved overwriting) × ((opened_dialog d saved overwriting).held ≡ None)

-- ---- events

-- no command comes while a leaf holds the mouse: it could move the focus away from a cluster that is held,
-- and the up on that
-- would then change marks by which the new focus is shown. No session hands one in
abbrev pub RespectsHold : Option Held → Event → Type 0
RespectsHold (Some held) (events.Command c) = ⊥
RespectsHold (Some held) _ = Unit {0}
RespectsHold None e = Unit {0}

-- every event keeps an open dialog as it must be, or it ends it by a command that the dialog declares
abbrev pub StaysFit : Dialog → Type 0
StaysFit d = (m : Modal) (e : Event) → IsOpen d m → RespectsHold m.held e → IsDone d (dialog_step d e m)
