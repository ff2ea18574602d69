-- Which events a run leaves to its program, shown by states in which another rule would tell otherwise.
use Rattle.std.specs.Prelude.{[], ◌≡◌, ℕ, Bool, true, false, ◌∷◌, pos, codes}
use Rattle.std.proofs.Common.{refl}
use Rattle.tv_event.specs.declared.event.Event.{Event}
use Rattle.tv_event.specs.declared.event.Event.TheVariants as events
use Rattle.tv_event.specs.declared.event.Key.TheVariants as keys
use Rattle.tv_model.specs.declared.desc.Desc.{Desc}
use Rattle.tv_machine.specs.Run.{Session, started, stepped}
use Rattle.tv_machine.specs.Session.Left.{is_left}
use Rattle.tv_machine.proofs.Descriptions.{one_dialog, quitting, shown_pane, two_windows, windows_under_menu}

-- after an event, the next one is the program's
abbrev leaves : Session → Event → Bool
leaves s e = is_left s.desc s.state e

abbrev down : ℕ → ℕ → Event
down x y = events.Down (record { x = pos x; y = pos y })

-- a letter is the program's, and so is a function key that no status item has
letter_left : leaves (started two_windows) (events.Key (keys.Char 97)) ≡ true
letter_left = refl

function_left : leaves (started quitting) (events.Key (keys.Function 7)) ≡ true
function_left = refl

-- the key of a status item isn't
status_taken : leaves (started quitting) (events.Key (keys.Function 3)) ≡ false
status_taken = refl

-- a key while a menu is open isn't, nor one while a dialog is
menu_taken : leaves (stepped (started windows_under_menu) (events.Key (keys.Alt 70))) (events.Key (keys.Char 97)) ≡ false
menu_taken = refl

dialog_taken : leaves (started shown_pane) (events.Key (keys.Char 97)) ≡ false
dialog_taken = refl

-- a down in the front window is; one on the window behind, on the close mark or the top row isn't
inside_left : leaves (started two_windows) (down 10 4) ≡ true
inside_left = refl

behind_taken : leaves (started two_windows) (down 3 2) ≡ false
behind_taken = refl

mark_taken : leaves (started two_windows) (down 11 3) ≡ false
mark_taken = refl

grip_taken : leaves (started two_windows) (down 18 3) ≡ false
grip_taken = refl

-- a move is, but not while it drags a window
move_left : leaves (started two_windows) (events.Move (record { x = pos 10; y = pos 4 })) ≡ true
move_left = refl

drag_taken : leaves (stepped (started two_windows) (down 18 3)) (events.Move (record { x = pos 10; y = pos 4 })) ≡ false
drag_taken = refl

-- the desktop itself is the program's as well, the status line isn't
desktop_left : leaves (started two_windows) (down 1 8) ≡ true
desktop_left = refl

last_row_taken : leaves (started two_windows) (down 1 9) ≡ false
last_row_taken = refl
