-- How windows and dialogs are dragged by their top rows.
use Rattle.std.specs.Prelude.{[], Bool, false, not, ◌&&◌, List, ◌∷◌, Option, Some, None, ℤ, pos, ◌-ℤ◌}
use Rattle.std.specs.Prelude.{int_le, int_lt, slice_get, if◌then◌else◌}
use Rattle.std.specs.Ordering.{int_eq}
use Rattle.tv_cells.specs.declared.rect.Point.{Point}
use Rattle.tv_event.specs.declared.event.Event.{Event}
use Rattle.tv_event.specs.declared.event.Event.TheVariants as events
use Rattle.tv_model.specs.declared.desc.Desc.{Desc}
use Rattle.tv_model.specs.declared.desc.Dialog.{Dialog}
use Rattle.tv_model.specs.declared.node.Id.{Id}
use Rattle.tv_model.specs.declared.log.LogLine.TheVariants as lines
use Rattle.tv_machine.specs.State.{HeldFrame, OpenDialog, OpenWindow, State}
use Rattle.tv_machine.specs.Dialog.Mouse.{is_close_mark}
use Rattle.tv_machine.specs.Session.Commands.{with_line_logged}

-- ---- what is held

-- a point of the top row of a frame of this width, seen from its corner, beside the close mark
abbrev pub is_grip : ℤ → Point → Bool
is_grip width p =
    (int_le (pos 0) p.x && int_lt p.x width) && (int_eq p.y (pos 0) && not (is_close_mark p))

-- the same of the dialog that is open, if it is declared
abbrev pub is_grip_of : Option Dialog → Point → Bool
is_grip_of None p = false
is_grip_of (Some dialog) p = is_grip dialog.node.w p

-- the mouse holds a frame with this corner
abbrev pub grabbed : Point → Point → State → State
grabbed corner p s = record s { frame = Some (record { off = p.x -ℤ corner.x; from = corner }) }

-- ---- where it goes

-- the number, or the nearest from low to high
abbrev pub clamped : (low high n : ℤ) → ℤ
clamped low high n = if int_lt n low then low else if int_lt high n then high else n

-- where the corner comes to: the column that is held is the mouse's, or the nearest one of the screen; the
-- row is the mouse's, or the nearest one of the desktop
abbrev pub corner_at : Desc → HeldFrame → Point → Point
corner_at d f p = record {
  x = clamped (pos 0) (d.width -ℤ pos 1) p.x -ℤ f.off;
  y = clamped (pos 1) (d.height -ℤ pos 2) p.y;
}

-- the front window stands there
abbrev pub front_at : Point → List OpenWindow → List OpenWindow
front_at corner [] = []
front_at corner (front ∷ behind) = record front { origin = corner } ∷ behind

-- the open dialog does, or without one the front window
abbrev pub placed : Option OpenDialog → Point → State → State
placed None corner s = record s { windows = front_at corner s.windows }
placed (Some o) corner s = record s { dialog = Some (record o { origin = corner }) }

-- ---- the release

-- the two are one point
abbrev pub is_same_point : Point → Point → Bool
is_same_point p q = int_eq p.x q.x && int_eq p.y q.y

-- that a frame came here is logged
abbrev pub logged_moved : Id → Point → State → State
logged_moved i corner s = with_line_logged (lines.Moved i corner) s

abbrev pub moved_dialog : Option Dialog → Point → State → State
moved_dialog None corner s = s
moved_dialog (Some dialog) corner s = logged_moved dialog.node.id corner s

abbrev pub moved_front : List OpenWindow → Point → State → State
moved_front [] corner s = s
moved_front (front ∷ behind) corner s = logged_moved front.id corner s

abbrev pub moved_frame : Desc → Option OpenDialog → Point → State → State
moved_frame d None corner s = moved_front s.windows corner s
moved_frame d (Some o) corner s = moved_dialog (slice_get d.dialogs o.place) corner s

-- nothing is held any longer
abbrev pub let_go : State → State
let_go s = record s { frame = None }

-- where the frame doesn't stand where it stood at the down, that is logged
abbrev pub dropped : Desc → HeldFrame → Point → State → State
dropped d f corner s = if is_same_point f.from corner then s else moved_frame d s.dialog corner s

-- ---- while a frame is held

-- moves and ups move it, an up lets it go, and nothing else does anything
abbrev pub step_dragged : Desc → HeldFrame → Event → State → State
step_dragged d f (events.Move p) s = placed s.dialog (corner_at d f p) s
step_dragged d f (events.Up p) s =
    dropped d f (corner_at d f p) (placed s.dialog (corner_at d f p) (let_go s))
step_dragged d f (events.Key k) s = s
step_dragged d f (events.Down p) s = s
step_dragged d f (events.Command c) s = s
step_dragged d f (events.Broadcast c) s = s
