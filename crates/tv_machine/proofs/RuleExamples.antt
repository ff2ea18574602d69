-- What each rule of the machine says, shown by a run that another rule would change.
use Prim.Native.String.{String}
use Rattle.std.specs.Prelude.{[], ◌≡◌, ℕ, List, ◌∷◌, ◌++◌, flat_map, codes, pos}
use Rattle.std.proofs.Common.{refl}
use Rattle.std.specs.Char.{encode_utf8}
use Rattle.std.specs.Fmt.{digits}
use Rattle.unicode_width.specs.Width.{char_width}
use Rattle.tv_event.specs.declared.event.Event.TheVariants as events
use Rattle.tv_event.specs.declared.event.Key.{Key}
use Rattle.tv_event.specs.declared.event.Key.TheVariants as keys
use Rattle.tv_machine.specs.declared.script.Item.{Item}
use Rattle.tv_machine.specs.declared.script.Item.TheVariants as items
use Rattle.tv_model.specs.Log.LogText.{line_of}
use Rattle.tv_machine.specs.Run.{started}
use Rattle.tv_machine.specs.Output.{output, screen_cell}
use Rattle.tv_machine.proofs.Descriptions.{shown_pane, hidden_input, hidden_button, namesakes, hidden_first, closed_dialog, quitting, two_windows}

-- one name to unfold where a text is computed
unfoldable written : Unit {0}
unfolding line_of digits encode_utf8 char_width
written = tt

-- lines, each with its line end
abbrev text : List String → List ℕ
text lines = flat_map (λ line. codes line ++ 10 ∷ []) lines

-- a key of a script
abbrev key : Key → Item
key k = items.Event (events.Key k)

-- a letter with Alt, by its number
abbrev alt : ℕ → Item
alt letter = key (keys.Alt letter)

-- a mouse down on a column and a row
abbrev down : ℕ → ℕ → Item
down x y = items.Event (events.Down (record { x = pos x; y = pos y }))

-- a mouse up there
abbrev up : ℕ → ℕ → Item
up x y = items.Event (events.Up (record { x = pos x; y = pos y }))

-- Space
abbrev space : Item
space = key (keys.Char 32)

-- Tab goes through the controls in panes, in description order
tab_enters_panes : output (started shown_pane) (space ∷ key keys.Tab ∷ key keys.Tab ∷ key keys.ShiftTab ∷ []) ≡ text
    ("open d" ∷ "focus k" ∷ "focus i" ∷ "focus o" ∷ "focus i" ∷ [])
unfolding written
tab_enters_panes = refl

-- Enter doesn't press a default button that is disabled
enter_leaves_disabled_default : output (started shown_pane) (key keys.Enter ∷ space ∷ key keys.Enter ∷ []) ≡ text
    ("open d" ∷ "focus k" ∷ "press o" ∷ "end d ok" ∷ "field k 1" ∷ "field i \"1\"" ∷ [])
unfolding written
enter_leaves_disabled_default = refl

-- a label's letter doesn't focus a link that is hidden
label_leaves_hidden_link : output (started shown_pane) (alt 73 ∷ space ∷ alt 73 ∷ key keys.Esc ∷ []) ≡ text
    ("open d" ∷ "focus k" ∷ "focus i" ∷ "end d cancel" ∷ "field k 1" ∷ "field i \"1\"" ∷ [])
unfolding written
label_leaves_hidden_link = refl

-- a letter doesn't press a button that is disabled
letter_leaves_disabled_button : output (started shown_pane) (alt 79 ∷ space ∷ alt 79 ∷ []) ≡ text
    ("open d" ∷ "focus k" ∷ "press o" ∷ "end d ok" ∷ "field k 1" ∷ "field i \"1\"" ∷ [])
unfolding written
letter_leaves_disabled_button = refl

-- nor one that is hidden
letter_leaves_hidden_button : output (started hidden_button) (alt 80 ∷ space ∷ alt 80 ∷ []) ≡ text
    ("open d" ∷ "focus k" ∷ "press b" ∷ "command 120" ∷ [])
unfolding written
letter_leaves_hidden_button = refl

-- a rule shows the first view of its name, and hides none of the others
namesake_stays_shown : output (started namesakes) (key keys.Tab ∷ key keys.Tab ∷ key keys.Tab ∷ []) ≡ text
    ("open d" ∷ "focus k" ∷ "focus b" ∷ "focus c" ∷ "focus k" ∷ [])
unfolding written
namesake_stays_shown = refl

-- a rule on an item that isn't there never holds
no_item_is_the_first : output (started namesakes) (space ∷ key keys.Tab ∷ key keys.Tab ∷ key keys.Tab ∷ key keys.Tab ∷ []) ≡ text
    ("open d" ∷ "focus k" ∷ "focus b" ∷ "focus b" ∷ "focus c" ∷ "focus k" ∷ [])
unfolding written
no_item_is_the_first = refl

-- `ok` asks hidden inputs too, and then the focus stays where it is
ok_asks_hidden_inputs : output (started hidden_input) (alt 79 ∷ key keys.Esc ∷ []) ≡ text
    ("open d" ∷ "focus k" ∷ "press o" ∷ "invalid i" ∷ "end d cancel" ∷ "field k -" ∷ "field i \"\"" ∷ [])
unfolding written
ok_asks_hidden_inputs = refl

-- a button that holds the mouse lets no key through, also no status key, and an up outside it presses nothing
held_drops_keys : output (started hidden_input) (down 15 7 ∷ key keys.Esc ∷ key (keys.Function 3) ∷ up 3 7 ∷ []) ≡ text ("open d" ∷ "focus k" ∷ [])
unfolding written
held_drops_keys = refl

-- reopening starts from what was declared where the last end was by `cancel`
reopened_as_declared : output (started hidden_input) (space ∷ key keys.Esc ∷ key (keys.Function 3) ∷ key keys.Esc ∷ []) ≡ text
    ("open d" ∷ "focus k" ∷ "end d cancel" ∷ "field k 1" ∷ "field i \"\"" ∷ "open d" ∷ "focus k" ∷ "end d cancel" ∷ "field k -" ∷ "field i \"\"" ∷ [])
unfolding written
reopened_as_declared = refl

-- and from what was saved where the last end was by `ok`
reopened_as_saved : output (started shown_pane) (space ∷ key keys.Enter ∷ key (keys.Function 3) ∷ key keys.Esc ∷ []) ≡ text
    ("open d" ∷ "focus k" ∷ "press o" ∷ "end d ok" ∷ "field k 1" ∷ "field i \"1\"" ∷ "open d" ∷ "focus k" ∷ "end d cancel" ∷ "field k 1" ∷ "field i \"1\"" ∷ [])
unfolding written
reopened_as_saved = refl

-- a command of the description's own is logged, and the dialog stays open
own_command_stays : output (started hidden_input) (key (keys.Function 3) ∷ key keys.Esc ∷ []) ≡ text
    ("open d" ∷ "focus k" ∷ "command 100" ∷ "end d cancel" ∷ "field k -" ∷ "field i \"\"" ∷ [])
unfolding written
own_command_stays = refl

-- an up lets the mouse go, also outside the button that holds it, so that keys are heard again
up_lets_go : output (started hidden_input) (down 15 7 ∷ up 3 7 ∷ key keys.Esc ∷ []) ≡ text
    ("open d" ∷ "focus k" ∷ "end d cancel" ∷ "field k -" ∷ "field i \"\"" ∷ [])
unfolding written
up_lets_go = refl

-- nothing happens once the run is over
over_drops_events : output (started quitting) (key (keys.Function 10) ∷ key (keys.Function 3) ∷ []) ≡ text ("quit" ∷ [])
unfolding written
over_drops_events = refl

-- the rules hold before the first focus, and after each change of a mark
rules_before_focus : output (started hidden_first) (key keys.Tab ∷ key keys.Tab ∷ key keys.Down ∷ key keys.ShiftTab ∷ []) ≡ text
    ("open d" ∷ "focus r" ∷ "focus c" ∷ "focus r" ∷ "focus i" ∷ [])
unfolding written
rules_before_focus = refl

-- a menu closes where an item is chosen, so that a status key is heard again
menu_closes : output (started closed_dialog) (alt 70 ∷ key keys.Enter ∷ key (keys.Function 3) ∷ []) ≡ text ("command 120" ∷ "open d" ∷ "focus r" ∷ [])
unfolding written
menu_closes = refl

-- a shadow doesn't fall on a window above: the corner of the second window, where the first one casts its shadow
shadow_below_window : screen_cell (started two_windows) 8 5 ≡ record { ch = 124; attr = 0x1f }
unfolding written
shadow_below_window = refl
