-- What an event makes of an open dialog. Points are seen from its corner.
use Rattle.std.specs.Prelude.{Option, Some, None}
use Rattle.tv_event.specs.declared.event.Event.{Event}
use Rattle.tv_event.specs.declared.event.Event.TheVariants as events
use Rattle.tv_model.specs.declared.desc.Dialog.{Dialog}
use Rattle.tv_machine.specs.State.{Held}
use Rattle.tv_machine.specs.Dialog.Modal.{Modal, leaf_at}
use Rattle.tv_machine.specs.Dialog.Ending.{command}
use Rattle.tv_machine.specs.Dialog.Keys.{key}
use Rattle.tv_machine.specs.Dialog.Mouse.{down, held_moved, held_up}

-- while a leaf holds the mouse keys and mouse downs are dropped; moves go to it, and an up releases it
abbrev pub held_step : Dialog → Held → Event → Modal → Modal
held_step d held (events.Key k) m = m
held_step d held (events.Down p) m = m
held_step d held (events.Move p) m = held_moved d (leaf_at d held.id) p m
held_step d held (events.Up p) m = held_up d (leaf_at d held.id) held.item p m
held_step d held (events.Command c) m = command d c.0 m
held_step d held (events.Broadcast c) m = m

-- while nothing holds the mouse moves and ups do nothing
abbrev pub free_step : Dialog → Event → Modal → Modal
free_step d (events.Key k) m = key d k m
free_step d (events.Down p) m = down d p m
free_step d (events.Move p) m = m
free_step d (events.Up p) m = m
free_step d (events.Command c) m = command d c.0 m
free_step d (events.Broadcast c) m = m

-- one event, by whether a leaf holds the mouse
abbrev pub step_by : Dialog → Option Held → Event → Modal → Modal
step_by d None e m = free_step d e m
step_by d (Some held) e m = held_step d held e m

-- one event
abbrev pub dialog_step : Dialog → Event → Modal → Modal
dialog_step d e m = step_by d m.held e m
