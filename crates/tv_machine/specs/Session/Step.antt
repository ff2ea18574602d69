-- One event of a run. The first case that holds decides: the run is over; the mouse holds a frame, or a leaf;
-- a menu is open; a status item's key or cells; then the open dialog, or the desktop without one.
use Rattle.std.specs.Prelude.{[], ℕ, Bool, not, ◌&&◌, find, Option, Some, None, is_none, is_some, pos, ◌-ℤ◌}
use Rattle.std.specs.Prelude.{slice_get}
use Rattle.std.specs.Prelude.{if◌then◌else◌}
use Rattle.std.specs.Ordering.{int_eq}
use Rattle.tv_cells.specs.Layers.{is_in}
use Rattle.tv_cells.specs.declared.rect.Point.{Point}
use Rattle.tv_event.specs.declared.event.Event.{Event}
use Rattle.tv_event.specs.declared.event.Event.TheVariants as events
use Rattle.tv_event.specs.declared.event.Key.{Key}
use Rattle.tv_model.specs.declared.desc.Desc.{Desc}
use Rattle.tv_model.specs.declared.desc.StatusItem.{StatusItem}
use Rattle.tv_model.specs.Description.Commands.{command_number}
use Rattle.tv_model.specs.Description.Rectangles.{rect, desktop}
use Rattle.tv_model.specs.Faults.Letters.{is_same_key}
use Rattle.tv_machine.specs.State.{State, OpenDialog}
use Rattle.tv_machine.specs.Screen.Bars.{status_under}
use Rattle.tv_machine.specs.Dialog.Step.{dialog_step}
use Rattle.tv_machine.specs.Session.Enabled.{is_enabled_now}
use Rattle.tv_machine.specs.Session.Commands.{in_dialog, do_command}
use Rattle.tv_machine.specs.Session.Menu.{close_menu, menu_key, menu_down}
use Rattle.tv_machine.specs.Session.Desktop.{seen_from, desktop_key, desktop_down}
use Rattle.tv_machine.specs.Session.Dragging.{grabbed, is_grip_of, step_dragged}

-- ---- the open dialog

-- the event with its point seen from a corner
abbrev pub event_from : Point → Event → Event
event_from corner (events.Down p) = events.Down (seen_from corner p)
event_from corner (events.Up p) = events.Up (seen_from corner p)
event_from corner (events.Move p) = events.Move (seen_from corner p)
event_from corner (events.Key k) = events.Key k
event_from corner (events.Command c) = events.Command c
event_from corner (events.Broadcast c) = events.Broadcast c

-- the open dialog gets the event
abbrev pub to_dialog : Desc → OpenDialog → Event → State → State
to_dialog d o e s = in_dialog d s o (λ dialog m. dialog_step dialog (event_from o.origin e) m)

-- the open dialog, where a leaf of it holds the mouse
abbrev pub dialog_with_hold : Option OpenDialog → Option OpenDialog
dialog_with_hold None = None
dialog_with_hold (Some o) = if is_some o.held then Some o else None

-- ---- the status line

-- the last row of the screen
abbrev pub is_status_row : Desc → Point → Bool
is_status_row d p = int_eq p.y (d.height -ℤ pos 1)

-- the item's command is enabled
abbrev pub is_item_enabled : Desc → State → StatusItem → Bool
is_item_enabled d s item = is_enabled_now d s (command_number item.command)

-- the status item of a key whose command is enabled
abbrev pub status_item_of : Desc → State → Key → Option StatusItem
status_item_of d s k = find (λ item. is_same_key item.key k && is_item_enabled d s item) d.status

-- the command of a status item, if it is enabled
abbrev pub status_command : Desc → Option StatusItem → State → State
status_command d None s = s
status_command d (Some item) s =
    if is_item_enabled d s item then do_command d (command_number item.command) s else s

-- ---- while nothing holds the mouse

-- after a key. The first of these that there is takes it: the open menu, an enabled status item that has the
-- key, the open dialog, the desktop
abbrev pub after_key : Desc → Key → State → State
after_key d k s =
    elim s.menu [
      | Some menu ↦ menu_key d menu k s
      | None ↦ elim (status_item_of d s k) [
        | Some item ↦ do_command d (command_number item.command) s
        | None ↦ elim s.dialog [ Some o ↦ to_dialog d o (events.Key k) s | None ↦ desktop_key d k s ]
      ]
    ]

-- after a down on the desktop while a dialog is open: its top row is held, and anything else is the dialog's
abbrev pub down_on_dialog : Desc → OpenDialog → Point → State → State
down_on_dialog d o p s =
    if is_grip_of (slice_get d.dialogs o.place) (seen_from o.origin p) then grabbed o.origin p s
    else to_dialog d o (events.Down p) s

-- after a down. An open menu takes it. With none it does nothing off the screen, and is the status line's on
-- the last row; elsewhere an open dialog gets what is on the desktop, and without one titles and windows do
abbrev pub after_down : Desc → Point → State → State
after_down d p s =
    elim s.menu [
      | Some menu ↦ menu_down d menu p s
      | None ↦
          if not (is_in (rect (pos 0) (pos 0) d.width d.height) p.x p.y) then s
          else if is_status_row d p then status_command d (status_under d p.x) s
          else elim s.dialog [
            | Some o ↦ if is_in (desktop d) p.x p.y then down_on_dialog d o p s else s
            | None ↦ desktop_down d p s
          ]
    ]

-- after an event: moves and ups do nothing, nor do commands and broadcasts that are handed in
abbrev pub after_event : Desc → Event → State → State
after_event d (events.Key k) s = after_key d k s
after_event d (events.Down p) s = after_down d p s
after_event d _ s = s

-- ---- while a leaf of the open dialog holds the mouse

-- moves and ups go to the dialog, and nothing else does anything
abbrev pub step_held : Desc → OpenDialog → Event → State → State
step_held d o (events.Move p) s = to_dialog d o (events.Move p) s
step_held d o (events.Up p) s = to_dialog d o (events.Up p) s
step_held d o _ s = s

-- ---- the step

-- the state with an empty log
abbrev pub with_empty_log : State → State
with_empty_log s = record s { log = [] }

-- one event: the log is emptied, and nothing more happens once the run is over
abbrev pub step : Desc → State → Event → State
step d s e =
    if s.is_over then with_empty_log s
    else elim s.frame [
      | Some frame ↦ step_dragged d frame e (with_empty_log s)
      | None ↦ elim (dialog_with_hold s.dialog) [
        | Some o ↦ step_held d o e (with_empty_log s)
        | None ↦ after_event d e (with_empty_log s)
      ]
    ]

-- ---- a command that the program gives

-- it is done while the run goes on and nothing holds the mouse, if it is enabled
abbrev pub takes_command : Desc → State → ℕ → Bool
takes_command d s number =
    not s.is_over && is_none s.frame && is_none (dialog_with_hold s.dialog) && is_enabled_now d s number

-- a command that the program gives, as if a user had chosen it: the log is emptied, and an open menu closes
abbrev pub give_command : Desc → State → ℕ → State
give_command d s number =
    if takes_command d s number then do_command d number (close_menu (with_empty_log s)) else with_empty_log s
