-- A sheet that the program lays in the interior of a window or of the open dialog. It is a step of its own beside events.
use Rattle.std.specs.Prelude.{Bool, false, map, Option, Some, None, slice_get, ◌==◌, if◌then◌else◌}
use Rattle.std.specs.Option.{option_map_or}
use Rattle.tv_cells.specs.Picture.{Picture}
use Rattle.tv_model.specs.declared.node.Id.{Id}
use Rattle.tv_model.specs.declared.desc.Desc.{Desc}
use Rattle.tv_machine.specs.State.{State, OpenDialog, OpenWindow}

-- in the window of an id
abbrev pub laid_in_window : Id → Option Picture → OpenWindow → OpenWindow
laid_in_window i sheet w = if w.id.0 == i.0 then record w { sheet = sheet } else w

-- in the open windows
abbrev pub laid_in_windows : Id → Option Picture → State → State
laid_in_windows i sheet s = record s { windows = map (laid_in_window i sheet) s.windows }

-- in the dialog that is open
abbrev pub laid_in_dialog : OpenDialog → Option Picture → State → State
laid_in_dialog o sheet s = record s { dialog = Some (record o { sheet = sheet }) }

-- whether the dialog that is open has the id
abbrev pub is_open_dialog : Desc → Id → OpenDialog → Bool
is_open_dialog d i o = option_map_or (λ dialog. dialog.node.id.0 == i.0) (slice_get d.dialogs o.place) false

-- the same of the dialog that is open, if there is one
abbrev pub has_open : Desc → Id → Option OpenDialog → Bool
has_open d i None = false
has_open d i (Some o) = is_open_dialog d i o

-- by the dialog that is open, if there is one
abbrev pub laid_by_dialog : Desc → Id → Option Picture → Option OpenDialog → State → State
laid_by_dialog d i sheet None s = laid_in_windows i sheet s
laid_by_dialog d i sheet (Some o) s =
    if is_open_dialog d i o then laid_in_dialog o sheet s else laid_in_windows i sheet s

-- in the open dialog if it has the id, else in the open window that has it: nothing else changes, and the log
-- stays
abbrev pub laid : Desc → Id → Option Picture → State → State
laid d i sheet s = laid_by_dialog d i sheet s.dialog s
