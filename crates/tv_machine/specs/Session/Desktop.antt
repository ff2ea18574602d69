-- Keys and mouse downs while neither a menu nor a dialog is open: menus open, and windows come to the front,
-- close and are held.
use Rattle.std.specs.Prelude.{[], ℕ, Bool, false, ◌&&◌, List, ◌∷◌, find, Option, Some, None, pos, ◌-ℤ◌, ◌==◌}
use Rattle.std.specs.Prelude.{◌-◌, nat_le, if◌then◌else◌}
use Rattle.std.specs.Ordering.{int_eq}
use Rattle.tv_cells.specs.Layers.{is_in}
use Rattle.tv_cells.specs.declared.rect.Point.{Point}
use Rattle.tv_event.specs.Commands.{cm_close}
use Rattle.tv_event.specs.declared.event.Key.{Key}
use Rattle.tv_event.specs.declared.event.Key.TheVariants as keys
use Rattle.tv_model.specs.declared.node.Id.{Id}
use Rattle.tv_model.specs.declared.desc.Desc.{Desc}
use Rattle.tv_model.specs.declared.desc.Window.{Window}
use Rattle.tv_model.specs.Description.Heads.{window_head}
use Rattle.tv_model.specs.Description.Rectangles.{rect, desktop}
use Rattle.tv_machine.specs.Screen.Bodies.{window_of}
use Rattle.tv_machine.specs.State.{State, OpenWindow}
use Rattle.tv_machine.specs.Dialog.Mouse.{is_close_mark}
use Rattle.tv_machine.specs.Session.Commands.{raised, do_command}
use Rattle.tv_machine.specs.Session.Dragging.{grabbed, is_grip}
use Rattle.tv_machine.specs.Session.Menu.{open_menu, title_of_letter, title_at}

-- ---- windows

-- a point, seen from a corner
abbrev pub seen_from : Point → Point → Point
seen_from corner p = record { x = p.x -ℤ corner.x; y = p.y -ℤ corner.y }

-- the rectangle of a window, seen from its corner, has the point
abbrev pub has_point : Option Window → Point → Bool
has_point None p = false
has_point (Some window) p = is_in (rect (pos 0) (pos 0) window.node.w (window_head window).h) p.x p.y

-- an open window has the point
abbrev pub is_under : Desc → Point → OpenWindow → Bool
is_under d p w = has_point (window_of d w.id) (seen_from w.origin p)

-- the topmost window at a point
abbrev pub window_under : Desc → State → Point → Option OpenWindow
window_under d s p = find (is_under d p) s.windows

-- the window of an id comes to the front
abbrev pub raise : Id → State → State
raise i s = record s { windows = raised i s.windows }

-- ---- keys

-- whether the window has the number
abbrev pub is_numbered : ℕ → Option Window → Bool
is_numbered number None = false
is_numbered number (Some window) = int_eq (window_head window).number (pos number)

-- the open window that has the number comes to the front
abbrev pub raise_found : Option OpenWindow → State → State
raise_found None s = s
raise_found (Some w) s = raise w.id s

-- the open window of a digit from 1 to 9
abbrev pub window_of_digit : Desc → State → ℕ → Option OpenWindow
window_of_digit d s ch =
    if nat_le 49 ch && nat_le ch 57 then find (λ w. is_numbered (ch - 48) (window_of d w.id)) s.windows
    else None

-- a letter or digit with Alt opens its menu, or brings the window of its number to the front
abbrev pub alt_pressed : Desc → ℕ → Option ℕ → State → State
alt_pressed d ch None s = raise_found (window_of_digit d s ch) s
alt_pressed d ch (Some menu) s = open_menu menu s

-- a key: without Alt it does nothing
abbrev pub desktop_key : Desc → Key → State → State
desktop_key d (keys.Alt ch) s = alt_pressed d ch (title_of_letter d ch) s
desktop_key d _ s = s

-- ---- mouse downs

-- the top row of the front window is held, beside its close mark
abbrev pub grab_window : Option Window → OpenWindow → Point → State → State
grab_window None w p s = s
grab_window (Some window) w p s =
    if is_grip window.node.w (seen_from w.origin p) then grabbed w.origin p s else s

-- a down on the front window gives `close` where it is on its close mark, and holds it where it is on the top
-- row beside that
abbrev pub down_in_front : Desc → OpenWindow → Point → State → State
down_in_front d w p s =
    if is_close_mark (seen_from w.origin p) then do_command d cm_close s
    else grab_window (window_of d w.id) w p s

-- a window that isn't the front one comes to the front, and nothing else is done
abbrev pub down_on_window : Desc → List OpenWindow → OpenWindow → Point → State → State
down_on_window d [] w p s = s
down_on_window d (front ∷ behind) w p s = if front.id.0 == w.id.0 then down_in_front d w p s else raise w.id s

-- on the topmost window there, if there is one
abbrev pub down_on_desktop : Desc → Option OpenWindow → Point → State → State
down_on_desktop d None p s = s
down_on_desktop d (Some w) p s = down_on_window d s.windows w p s

-- a title opens its menu; on the desktop the topmost window gets the down
abbrev pub down_beside_title : Desc → Option ℕ → Point → State → State
down_beside_title d None p s =
    if is_in (desktop d) p.x p.y then down_on_desktop d (window_under d s p) p s else s
down_beside_title d (Some menu) p s = open_menu menu s

-- a mouse down
abbrev pub desktop_down : Desc → Point → State → State
desktop_down d p s = down_beside_title d (title_at d p) p s
