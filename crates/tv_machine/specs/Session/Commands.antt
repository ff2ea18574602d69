-- Commands, by whether a dialog is open.
use Rattle.std.specs.Prelude.{[], ℕ, true, not, pos, List, ◌∷◌, ◌++◌, filter, position, reverse, Option}
use Rattle.std.specs.Prelude.{Some, None, slice_get, slice_set, unwrap_or, ◌==◌, if◌then◌else◌}
use Rattle.tv_event.specs.Commands.{cm_cancel, cm_close, cm_menu, cm_next, cm_quit, is_own_command}
use Rattle.tv_model.specs.declared.node.Id.{Id}
use Rattle.tv_model.specs.declared.desc.Desc.{Desc}
use Rattle.tv_model.specs.declared.desc.Dialog.{Dialog}
use Rattle.tv_model.specs.declared.desc.Menu.{Menu}
use Rattle.tv_model.specs.declared.log.LogLine.{LogLine}
use Rattle.tv_model.specs.declared.log.LogLine.TheVariants as lines
use Rattle.tv_model.specs.Description.Heads.{dialog_head}
use Rattle.tv_model.specs.Description.Rectangles.{corner_of}
use Rattle.tv_model.specs.Faults.Starts.{is_option_number}
use Rattle.tv_model.specs.Log.Record.{Entries}
use Rattle.tv_machine.specs.State.{State, OpenDialog, OpenWindow}
use Rattle.tv_machine.specs.Dialog.Modal.{Modal}
use Rattle.tv_machine.specs.Dialog.Ending.{command, fields_of}
use Rattle.tv_machine.specs.Dialog.Opening.{opened_dialog}

-- one line more in the log
abbrev pub with_line_logged : LogLine → State → State
with_line_logged line s = record s { log = s.log ++ line ∷ [] }

-- ---- the open dialog

-- the inputs of the dialog at a place in which typing overwrites
abbrev pub overwriting_at : State → ℕ → List Id
overwriting_at s place = unwrap_or (slice_get s.overwriting place) []

-- the record that the last end of the dialog at a place saved
abbrev pub saved_at : State → ℕ → Option Entries
saved_at s place = unwrap_or (slice_get s.saved place) None

-- the open dialog at work, with nothing logged yet
abbrev pub modal_of : State → OpenDialog → Modal
modal_of s o = record {
  leaves = o.leaves;
  focus = o.focus;
  held = o.held;
  overwriting = overwriting_at s o.place;
  log = [];
  ended = None;
}

-- a dialog as it stands after its work
abbrev pub dialog_after : OpenDialog → Modal → OpenDialog
dialog_after o m = record o { leaves = m.leaves; focus = m.focus; held = m.held }

-- what its work leaves whether it ended or not: what it logged, and where typing overwrites
abbrev pub worked : State → ℕ → Modal → State
worked s place m = record s {
  overwriting = slice_set s.overwriting place m.overwriting;
  log = s.log ++ m.log;
}

-- the record of an ended dialog is saved, unless it ended by `cancel`
abbrev pub saved_by : ℕ → ℕ → Modal → List (Option Entries) → List (Option Entries)
saved_by place number m saved =
    if number == cm_cancel then saved else slice_set saved place (Some (fields_of m.leaves))

-- the state after the dialog's work: it stands, or it ended by a command
abbrev pub after_work : State → OpenDialog → Modal → Option ℕ → State
after_work s o m None = record (worked s o.place m) { dialog = Some (dialog_after o m) }
after_work s o m (Some number) =
    record (worked s o.place m) { dialog = None; saved = saved_by o.place number m s.saved }

-- the open dialog works, by its description
abbrev pub works : State → OpenDialog → (Dialog → Modal → Modal) → Option Dialog → State
works s o work None = s
works s o work (Some dialog) = after_work s o (work dialog (modal_of s o)) (work dialog (modal_of s o)).ended

-- the same, found in the description
abbrev pub in_dialog : Desc → State → OpenDialog → (Dialog → Modal → Modal) → State
in_dialog d s o work = works s o work (slice_get d.dialogs o.place)

-- ---- opening

-- a dialog opens where it is declared
abbrev pub opened_at : State → ℕ → Dialog → Modal → State
opened_at s place dialog m = record (worked (with_line_logged (lines.Open dialog.node.id) s) place m) {
  dialog =
      Some
      (record {
        place = place;
        origin = corner_of dialog.node;
        sheet = None;
        leaves = m.leaves;
        focus = m.focus;
        held = m.held;
      });
}

-- a dialog at a place opens, with what the last run of it saved
abbrev pub open_found : State → ℕ → Option Dialog → State
open_found s place None = s
open_found s place (Some dialog) =
    opened_at s place dialog (opened_dialog dialog (saved_at s place) (overwriting_at s place))

-- the dialog at a place of the description opens
abbrev pub open_dialog : Desc → ℕ → State → State
open_dialog d place s = open_found s place (slice_get d.dialogs place)

-- ---- windows

-- the window of an id comes to the front
abbrev pub raised : Id → List OpenWindow → List OpenWindow
raised i windows = filter (λ w. w.id.0 == i.0) windows ++ filter (λ w. not (w.id.0 == i.0)) windows

-- the last comes to the front
abbrev pub last_first : List OpenWindow → List OpenWindow
last_first [] = []
last_first (w ∷ behind) = w ∷ reverse behind

-- the front window closes
abbrev pub close_front : List OpenWindow → State → State
close_front [] s = s
close_front (w ∷ behind) s = with_line_logged (lines.Close w.id) (record s { windows = behind })

-- ---- commands

-- the dialog that a command opens, by its place
abbrev pub opener_of : Desc → ℕ → Option ℕ
opener_of d number = position (λ dialog. is_option_number (pos number) (dialog_head dialog).opens) d.dialogs

-- a command of the description's own: its dialog opens, or it is logged
abbrev pub own_command : Desc → ℕ → Option ℕ → State → State
own_command d number None s = if is_own_command number then with_line_logged (lines.Command number) s else s
own_command d number (Some place) s = open_dialog d place s

-- the first menu opens with its first item, if there is one
abbrev pub open_first : List Menu → State → State
open_first [] s = s
open_first (menu ∷ menus) s = record s { menu = Some (record { menu = 0; item = 0 }) }

-- a command while no dialog is open: `quit`, `menu`, `close`, `next`, and the description's own
abbrev pub idle_command : Desc → ℕ → State → State
idle_command d number s =
    if number == cm_quit then with_line_logged lines.Quit (record s { is_over = true })
    else if number == cm_menu then open_first d.menus s
    else if number == cm_close then close_front s.windows s
    else if number == cm_next then record s { windows = last_first (reverse s.windows) }
    else own_command d number (opener_of d number) s

-- a command, by whether a dialog is open
abbrev pub command_by_dialog : Desc → ℕ → Option OpenDialog → State → State
command_by_dialog d number None s = idle_command d number s
command_by_dialog d number (Some o) s = in_dialog d s o (λ dialog m. command dialog number m)

-- a command
abbrev pub do_command : Desc → ℕ → State → State
do_command d number s = command_by_dialog d number s.dialog s
