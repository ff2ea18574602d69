-- How windows and dialogs are dragged, shown by runs that another rule would change.
use Prim.Native.String.{String}
use Rattle.std.specs.Prelude.{[], ◌≡◌, ℕ, List, ◌∷◌, ◌++◌, flat_map, codes, pos}
use Rattle.std.proofs.Common.{refl}
use Rattle.std.specs.Char.{encode_utf8}
use Rattle.std.specs.Fmt.{digits}
use Rattle.unicode_width.specs.Width.{char_width}
use Rattle.tv_event.specs.declared.event.Event.TheVariants as events
use Rattle.tv_event.specs.declared.event.Key.{Key}
use Rattle.tv_event.specs.declared.event.Key.TheVariants as keys
use Rattle.tv_machine.specs.declared.script.Item.{Item}
use Rattle.tv_machine.specs.declared.script.Item.TheVariants as items
use Rattle.tv_model.specs.Log.LogText.{line_of}
use Rattle.tv_machine.specs.Run.{started}
use Rattle.tv_machine.specs.Output.{output}
use Rattle.tv_machine.proofs.Descriptions.{hidden_button, two_windows, windows_under_menu}

-- one name to unfold where a text is computed
unfoldable written : Unit {0}
unfolding line_of digits encode_utf8 char_width
written = tt

-- lines, each with its line end
abbrev text : List String → List ℕ
text lines = flat_map (λ line. codes line ++ 10 ∷ []) lines

-- a key of a script
abbrev key : Key → Item
key k = items.Event (events.Key k)

-- a mouse down on a column and a row
abbrev down : ℕ → ℕ → Item
down x y = items.Event (events.Down (record { x = pos x; y = pos y }))

-- a move there
abbrev move : ℕ → ℕ → Item
move x y = items.Event (events.Move (record { x = pos x; y = pos y }))

-- a mouse up there
abbrev up : ℕ → ℕ → Item
up x y = items.Event (events.Up (record { x = pos x; y = pos y }))

-- while a dialog is dragged Esc is dropped, and afterwards clicks are judged where it stands
dialog_dragged : output (started hidden_button) (down 8 1 ∷ key keys.Esc ∷ move 0 3 ∷ up 0 3 ∷ down 6 9 ∷ up 6 9 ∷ []) ≡ text
    ("open d" ∷ "focus k" ∷ "moved d -7 3" ∷ "press c" ∷ "end d cancel" ∷ "field k -" ∷ [])
unfolding written
dialog_dragged = refl

-- it stays on the desktop by its top row, and a move away and back isn't logged
dialog_stays : output (started hidden_button) (down 8 1 ∷ move 29 11 ∷ up 8 0 ∷ down 8 1 ∷ up 8 11 ∷ down 10 10 ∷ up 8 11 ∷ []) ≡ text
    ("open d" ∷ "focus k" ∷ "moved d 1 10" ∷ "moved d -1 10" ∷ [])
unfolding written
dialog_stays = refl

-- a window behind only comes to the front; the next down drags it
window_dragged : output (started two_windows) (down 2 1 ∷ up 9 9 ∷ down 2 1 ∷ up 4 5 ∷ down 5 5 ∷ []) ≡ text
    ("moved one 3 5" ∷ "close one" ∷ [])
unfolding written
window_dragged = refl

-- a down on the close mark holds nothing, and closes the dialog also where it was dragged
mark_closes : output (started hidden_button) (down 8 1 ∷ up 10 3 ∷ down 6 3 ∷ []) ≡ text
    ("open d" ∷ "focus k" ∷ "moved d 3 3" ∷ "end d cancel" ∷ "field k -" ∷ [])
unfolding written
mark_closes = refl

-- a dialog that was dragged opens again where it is declared
reopens_as_declared : output (started hidden_button) (down 8 1 ∷ up 10 3 ∷ key keys.Esc ∷ key (keys.Function 3) ∷ down 4 1 ∷ []) ≡ text
    ("open d" ∷ "focus k" ∷ "moved d 3 3" ∷ "end d cancel" ∷ "field k -" ∷ "open d" ∷ "focus k" ∷ "end d cancel" ∷ "field k -" ∷ [])
unfolding written
reopens_as_declared = refl

-- a down while a menu is open closes that, and holds no window
menu_comes_first : output (started windows_under_menu) (key (keys.Alt 70) ∷ down 18 3 ∷ up 19 4 ∷ down 18 3 ∷ up 20 5 ∷ []) ≡ text
    ("moved two 10 5" ∷ [])
unfolding written
menu_comes_first = refl
