-- Events that a run leaves to its program: those of which nothing is made, where no menu is open and nothing holds the mouse.
use Rattle.std.specs.Prelude.{[], ℕ, Bool, true, false, not, ◌&&◌, ◌||◌, List, ◌∷◌, Option, Some, None, is_none, is_some, slice_get}
use Rattle.std.specs.Prelude.{◌==◌, pos, ◌-ℤ◌, if◌then◌else◌}
use Rattle.tv_cells.specs.Layers.{is_in}
use Rattle.tv_cells.specs.declared.rect.Point.{Point}
use Rattle.tv_event.specs.declared.event.Event.{Event}
use Rattle.tv_event.specs.declared.event.Event.TheVariants as events
use Rattle.tv_event.specs.declared.event.Key.{Key}
use Rattle.tv_event.specs.declared.event.Key.TheVariants as keys
use Rattle.tv_model.specs.declared.node.Id.{Id}
use Rattle.tv_model.specs.declared.desc.Desc.{Desc}
use Rattle.tv_model.specs.Description.Rectangles.{rect, desktop}
use Rattle.tv_machine.specs.State.{State, OpenWindow}
use Rattle.tv_machine.specs.Dialog.Mouse.{is_close_mark}
use Rattle.tv_machine.specs.Screen.Bodies.{window_of}
use Rattle.tv_machine.specs.Session.Desktop.{seen_from, window_under, window_of_digit}
use Rattle.tv_machine.specs.Session.Dragging.{is_grip}
use Rattle.tv_machine.specs.Session.Menu.{title_of_letter, title_at}
use Rattle.tv_machine.specs.Session.Step.{dialog_with_hold, is_status_row, status_item_of}
use Rattle.tv_model.specs.declared.desc.Window.{Window}

-- nothing is open over the desktop, and nothing holds the mouse: then the program may be left an event
abbrev pub is_idle : State → Bool
is_idle s = not s.is_over && (is_none s.frame && (is_none s.menu && is_none s.dialog))

-- a letter or digit with Alt that opens a menu, or that is the number of an open window
abbrev pub is_alt_taken : Desc → State → ℕ → Bool
is_alt_taken d s ch = is_some (title_of_letter d ch) || is_some (window_of_digit d s ch)

-- a key that the desktop takes
abbrev pub is_key_taken : Desc → State → Key → Bool
is_key_taken d s (keys.Alt ch) = is_some (status_item_of d s (keys.Alt ch)) || is_alt_taken d s ch
is_key_taken d s k = is_some (status_item_of d s k)

-- a point of the top row of a window, by which it is held
abbrev pub is_gripped : Option Window → Point → Bool
is_gripped None p = false
is_gripped (Some window) p = is_grip window.node.w p

-- a point of the front window that closes it or by which it is held
abbrev pub is_on_top : Option Window → Point → Bool
is_on_top window p = is_close_mark p || is_gripped window p

-- a down on the topmost window there: raising it, closing it or holding it are taken
abbrev pub is_window_down : Desc → List OpenWindow → Option OpenWindow → Point → Bool
is_window_down d windows None p = false
is_window_down d [] (Some w) p = false
is_window_down d (front ∷ behind) (Some w) p =
    not (front.id.0 == w.id.0) || is_on_top (window_of d w.id) (seen_from w.origin p)

-- a down that the bars, the desktop or the edge of the screen take
abbrev pub is_down_taken : Desc → State → Point → Bool
is_down_taken d s p =
    not (is_in (rect (pos 0) (pos 0) d.width d.height) p.x p.y)
    || (is_status_row d p || (is_some (title_at d p)
    || is_window_down d s.windows (window_under d s p) p))

-- the event isn't taken by anything on the desktop
abbrev pub is_untaken : Desc → State → Event → Bool
is_untaken d s (events.Key k) = not (is_key_taken d s k)
is_untaken d s (events.Down p) = not (is_down_taken d s p)
is_untaken d s (events.Move p) = true
is_untaken d s (events.Up p) = true
is_untaken d s (events.Command c) = false
is_untaken d s (events.Broadcast c) = false

-- whether the event is the program's
abbrev pub is_left : Desc → State → Event → Bool
is_left d s e = is_idle s && is_untaken d s e
