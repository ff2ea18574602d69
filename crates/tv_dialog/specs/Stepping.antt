-- What a dialog makes of an event that it is handed.
use Rattle.std.specs.Prelude.{◌≡◌, ℕ, Bool, [], Option, Some, None, if◌then◌else◌}
use Rattle.tv_event.specs.Commands.{cm_cancel, cm_close, cm_default}
use Rattle.tv_event.specs.declared.event.Event.{Event}
use Rattle.tv_event.specs.declared.event.Event.TheVariants as events
use Rattle.tv_event.specs.declared.event.Key.{Key}
use Rattle.tv_event.specs.declared.event.Key.TheVariants as keys
use Rattle.tv_model.specs.declared.desc.Dialog.{Dialog}
use Rattle.tv_model.specs.Description.Marks.{upper}
use Rattle.tv_machine.specs.Dialog.Focus.{request}
use Rattle.tv_machine.specs.Dialog.Modal.{Modal}
use Rattle.tv_machine.specs.Dialog.Mouse.{is_close_mark}
use Rattle.tv_group.specs.declared.focus.Dir.TheVariants as dirs
use Rattle.tv_group.specs.Ready.{IsPointOf}
use Rattle.tv_dialog.specs.Standing.{stop_in}

-- what a key is posted as while no view holds the mouse, if it is
abbrev pub posted_key : Key → Option Event
posted_key keys.Tab = None
posted_key keys.ShiftTab = None
posted_key keys.Esc = Some (events.Command (record { 0 = cm_cancel }))
posted_key keys.Enter = Some (events.Broadcast (record { 0 = cm_default }))
posted_key k = Some (events.Key k)

-- the same for an event
abbrev pub posted_free : Event → Option Event
posted_free (events.Key k) = posted_key k
posted_free (events.Down p) =
    if is_close_mark p then Some (events.Command (record { 0 = cm_close })) else Some (events.Down p)
posted_free (events.Command c) = Some (events.Command c)
posted_free (events.Up p) = None
posted_free (events.Move p) = None
posted_free (events.Broadcast c) = None

-- what an event is posted as while a view holds the mouse
abbrev pub posted_held : Event → Option Event
posted_held (events.Up p) = Some (events.Up p)
posted_held (events.Move p) = Some (events.Move p)
posted_held (events.Command c) = Some (events.Command c)
posted_held (events.Key k) = None
posted_held (events.Down p) = None
posted_held (events.Broadcast c) = None

-- either, by whether one does
abbrev pub posted : Bool → Event → Option Event
posted held e = if held then posted_held e else posted_free e

-- the keys that lead from control to control
abbrev pub walked_by : Dialog → Key → Modal → Modal
walked_by d keys.Tab m = request d (stop_in d m dirs.Forward) m
walked_by d keys.ShiftTab m = request d (stop_in d m dirs.Backward) m
walked_by d k m = m

abbrev pub walked : Dialog → Event → Modal → Modal
walked d (events.Key k) m = walked_by d k m
walked d (events.Down p) m = m
walked d (events.Up p) m = m
walked d (events.Move p) m = m
walked d (events.Command c) m = m
walked d (events.Broadcast c) m = m

-- an event as a dialog is handed it: Alt comes with a capital letter or a digit, and points are near
abbrev pub IsHandedIn : Event → Type 0
IsHandedIn (events.Key k) = (letter : ℕ) → k ≡ keys.Alt letter → upper letter ≡ letter
IsHandedIn (events.Down p) = IsPointOf p
IsHandedIn (events.Up p) = IsPointOf p
IsHandedIn (events.Move p) = IsPointOf p
IsHandedIn (events.Command c) = Unit {0}
IsHandedIn (events.Broadcast c) = Unit {0}

-- before an event, its log empty
abbrev pub begun_anew : Modal → Modal
begun_anew m = record m { log = []; ended = None }
