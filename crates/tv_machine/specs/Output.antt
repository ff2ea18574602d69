-- What a script writes.
use Rattle.std.specs.Prelude.{[], ℕ, List, ◌∷◌, ◌++◌, flat_map, codes, decimal, encode_utf8, ◌+◌, ◌/◌, ◌%◌}
use Rattle.std.specs.Prelude.{nat_lt, if◌then◌else◌}
use Rattle.std.specs.List.{range_with_len}
use Rattle.tv_cells.specs.Glyph.{Glyph}
use Rattle.tv_cells.specs.Layers.{cell_of}
use Rattle.tv_event.specs.declared.event.Event.{Event}
use Rattle.tv_machine.specs.declared.script.Item.{Item}
use Rattle.tv_machine.specs.declared.script.Item.TheVariants as items
use Rattle.tv_model.specs.Description.Numbers.{natural}
use Rattle.tv_machine.specs.Run.{Session, stepped, quiet}
use Rattle.tv_machine.specs.Screen.Layers.{layers_of}
use Rattle.tv_model.specs.Log.LogText.{log_text, line_of}

-- ---- the screen

-- the cell of the screen in a column and a row
abbrev pub screen_cell : Session → ℕ → ℕ → Glyph
screen_cell s column row = cell_of (layers_of s.desc s.state) column row

-- a lower case hexadecimal digit
abbrev pub hex_digit : ℕ → ℕ
hex_digit n = if nat_lt n 10 then 48 + n else 87 + n

-- two lower case hexadecimal digits
abbrev pub hex_byte : ℕ → List ℕ
hex_byte n = hex_digit (n / 16) ∷ hex_digit (n % 16) ∷ []

-- the cells of a row, each by its text
abbrev pub cells_text : (Glyph → List ℕ) → ℕ → (ℕ → ℕ → Glyph) → ℕ → List ℕ
cells_text cell width at row = flat_map (λ column. cell (at column row)) (range_with_len 0 width)

-- a row between colons
abbrev pub row_text : (Glyph → List ℕ) → ℕ → (ℕ → ℕ → Glyph) → ℕ → List ℕ
row_text cell width at row = line_of (codes ":") (cells_text cell width at row ++ codes ":")

-- a line with a word and the columns and rows of a screen, and then its rows
abbrev pub screen_text : List ℕ → (Glyph → List ℕ) → ℕ → ℕ → (ℕ → ℕ → Glyph) → List ℕ
screen_text word cell width height at =
    line_of word (decimal width ++ codes " " ++ decimal height)
    ++ flat_map (row_text cell width at) (range_with_len 0 height)

-- the screen of a session
abbrev pub session_text : List ℕ → (Glyph → List ℕ) → Session → List ℕ
session_text word cell s =
    screen_text word cell (natural s.desc.width) (natural s.desc.height) (screen_cell s)

-- its characters
abbrev pub shot_text : Session → List ℕ
shot_text s = session_text (codes "shot ") (λ cell. encode_utf8 cell.ch) s

-- its attributes
abbrev pub colors_text : Session → List ℕ
colors_text s = session_text (codes "colors ") (λ cell. hex_byte cell.attr) s

-- ---- runs of a machine

-- the state after inputs, one after the other, and what is written for them
abbrev pub states : {S E : Type 0} → (S → E → S) → S → List E → S
states next s [] = s
states next s (e ∷ es) = states next (next s e) es

-- what is written for inputs, one after the other
abbrev pub texts : {S E : Type 0} → (S → E → S) → (S → E → List ℕ) → S → List E → List ℕ
texts next text s [] = []
texts next text s (e ∷ es) = text s e ++ texts next text (next s e) es

-- ---- events and items

-- an event: its log lines are written, and taken
abbrev pub event_text : Session → Event → List ℕ
event_text s e = log_text s.desc (stepped s e).state.log

-- the session after an event, its log taken
abbrev pub event_after : Session → Event → Session
event_after s e = quiet (stepped s e)

-- what is written for an item
abbrev pub item_text : Session → Item → List ℕ
item_text s (items.Event e) = event_text s e
item_text s items.Shot = shot_text s
item_text s items.Colors = colors_text s

-- the session after an item
abbrev pub session_after : Session → Item → Session
session_after s (items.Event e) = event_after s e
session_after s items.Shot = s
session_after s items.Colors = s

-- the output of a script: the log not yet taken, and then each item's text
abbrev pub output : Session → List Item → List ℕ
output s script = log_text s.desc s.state.log ++ texts session_after item_text (quiet s) script

-- the session after it, its log empty
abbrev pub after : Session → List Item → Session
after s script = states session_after (quiet s) script
