-- The step of a run as functions of what its cases go by, for proofs that go through the cases; and what a key and a
-- mouse down come to while no menu is open.
use Rattle.std.proofs.Common.{◌≡◌, not, if◌then◌else◌, Option, Some, None, ap, ◌∙◌}
use Rattle.std.specs.Prelude.{pos}
use Rattle.tv_cells.specs.Layers.{is_in}
use Rattle.tv_cells.specs.declared.rect.Point.{Point}
use Rattle.tv_event.specs.declared.event.Event.{Event}
use Rattle.tv_event.specs.declared.event.Event.TheVariants as events
use Rattle.tv_event.specs.declared.event.Key.{Key}
use Rattle.tv_model.specs.declared.desc.Desc.{Desc}
use Rattle.tv_model.specs.declared.desc.StatusItem.{StatusItem}
use Rattle.tv_model.specs.Description.Commands.{command_number}
use Rattle.tv_model.specs.Description.Rectangles.{desktop, rect}
use Rattle.tv_machine.specs.State.{HeldFrame, OpenDialog, OpenMenu, State}
use Rattle.tv_machine.specs.Screen.Bars.{status_under}
use Rattle.tv_machine.specs.Session.Commands.{do_command}
use Rattle.tv_machine.specs.Session.Desktop.{desktop_down, desktop_key}
use Rattle.tv_machine.specs.Session.Dragging.{step_dragged}
use Rattle.tv_machine.specs.Session.Menu.{menu_down, menu_key}
use Rattle.tv_machine.specs.Session.Step.{after_down, after_event, after_key, dialog_with_hold, down_on_dialog, is_status_row, status_command, status_item_of, step_held, to_dialog}

-- ---- a key

abbrev pub key_by_dialog : Desc → Option OpenDialog → Key → State → State
key_by_dialog d o k s = elim o [ Some x ↦ to_dialog d x (events.Key k) s | None ↦ desktop_key d k s ]

abbrev pub key_by_item : Desc → Option StatusItem → Key → State → State
key_by_item d o k s = elim o [ Some item ↦ do_command d (command_number item.command) s | None ↦ key_by_dialog d s.dialog k s ]

abbrev pub key_by_menu : Desc → Option OpenMenu → Key → State → State
key_by_menu d o k s = elim o [ Some menu ↦ menu_key d menu k s | None ↦ key_by_item d (status_item_of d s k) k s ]

-- ---- a mouse down

abbrev pub down_by_dialog : Desc → Option OpenDialog → Point → State → State
down_by_dialog d o p s =
    elim o [ Some x ↦ if is_in (desktop d) p.x p.y then down_on_dialog d x p s else s | None ↦ desktop_down d p s ]

abbrev pub down_by_row : Desc → Point → State → State
down_by_row d p s =
    if not (is_in (rect (pos 0) (pos 0) d.width d.height) p.x p.y) then s
    else if is_status_row d p then status_command d (status_under d p.x) s
    else down_by_dialog d s.dialog p s

abbrev pub down_by_menu : Desc → Option OpenMenu → Point → State → State
down_by_menu d o p s = elim o [ Some menu ↦ menu_down d menu p s | None ↦ down_by_row d p s ]

-- ---- an event

abbrev pub step_by_hold : Desc → Option OpenDialog → Event → State → State
step_by_hold d o e s = elim o [ Some x ↦ step_held d x e s | None ↦ after_event d e s ]

abbrev pub step_by_frame : Desc → Option HeldFrame → Event → State → State
step_by_frame d o e s = elim o [ Some frame ↦ step_dragged d frame e s | None ↦ step_by_hold d (dialog_with_hold s.dialog) e s ]

-- ---- while no menu is open

pub key-no-menu : (d : Desc) (k : Key) (s : State) → s.menu ≡ None → after_key d k s ≡ key_by_item d (status_item_of d s k) k s
key-no-menu d k s shut = ap (λ o. key_by_menu d o k s) shut

pub key-no-item : (d : Desc) (k : Key) (s : State) → s.menu ≡ None → status_item_of d s k ≡ None → after_key d k s ≡ key_by_dialog d s.dialog k s
key-no-item d k s shut none = key-no-menu d k s shut ∙ ap (λ o. key_by_item d o k s) none

pub down-no-menu : (d : Desc) (p : Point) (s : State) → s.menu ≡ None → after_down d p s ≡ down_by_row d p s
down-no-menu d p s shut = ap (λ o. down_by_menu d o p s) shut
