-- The state before the first event.
use Rattle.std.specs.Prelude.{[], ℕ, false, List, map, reverse, replicate, length, position, Option, Some}
use Rattle.std.specs.Prelude.{None}
use Rattle.tv_model.specs.declared.desc.Desc.{Desc}
use Rattle.tv_model.specs.declared.desc.Window.{Window}
use Rattle.tv_model.specs.Description.Heads.{is_named}
use Rattle.tv_model.specs.Description.Rectangles.{corner_of}
use Rattle.tv_machine.specs.State.{State, OpenWindow}
use Rattle.tv_machine.specs.Session.Commands.{open_dialog}

-- a window stands where it is declared
abbrev pub open_window : Window → OpenWindow
open_window window = record { id = window.node.id; origin = corner_of window.node; sheet = None }

-- no dialog is open, and the later windows stand in front
abbrev pub closed : Desc → State
closed d = record {
  is_over = false;
  windows = reverse (map open_window d.windows);
  menu = None;
  dialog = None;
  frame = None;
  saved = replicate (length d.dialogs) None;
  overwriting = replicate (length d.dialogs) [];
  log = [];
}

-- the dialog at a place is open
abbrev pub started_at : Desc → Option ℕ → State
started_at d None = closed d
started_at d (Some place) = open_dialog d place (closed d)

-- the dialog of a name is open
abbrev pub started_by : Desc → Option (List ℕ) → State
started_by d None = closed d
started_by d (Some name) = started_at d (position (is_named name) d.dialogs)

-- the state before the first event: the start dialog is open, and that is logged
abbrev pub start : Desc → State
start d = started_by d d.start
