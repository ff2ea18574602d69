-- Each row of the table, and what is beside it.
use Rattle.std.specs.Prelude.{ℕ, ◌≡◌, false, List, [], ◌∷◌, ◌++◌, map, codes, pos}
use Rattle.std.proofs.Common.{refl}
use Rattle.unicode_width.specs.Width.{char_width}
use Rattle.tv_cells.specs.declared.rect.Point.{Point}
use Rattle.tv_event.specs.declared.event.Event.TheVariants as events
use Rattle.tv_event.specs.declared.event.Key.TheVariants as keys
use Rattle.tv_terminal.specs.declared.action.Action.{Action}
use Rattle.tv_terminal.specs.declared.action.Action.TheVariants.{Event, Quit, Ready, Resized}
use Rattle.tv_terminal.specs.Table.{key_action, typed_char}
use Rattle.tv_terminal.specs.Decoding.{Symbol, Byte, Pause, before, decode, heard_while, left}
use Rattle.tv_terminal.specs.Rows.{csi, ss3, key_rows}

abbrev bytes : List ℕ → List Symbol
bytes bs = map Byte bs

-- what some bytes give
abbrev actions : List ℕ → List Action
actions bs = decode (bytes bs)

abbrev at : ℕ → ℕ → Point
at x y = record { x = pos x; y = pos y }

each_row : map (λ row. actions row.0) key_rows ≡ map (λ row. key_action row.1 ∷ []) key_rows
unfolding char_width
each_row = refl

-- ESC before a pause, before ESC, and before what it begins
escapes : decode (Byte 27 ∷ Pause ∷ []) ≡ key_action keys.Esc ∷ []
escapes = refl

two_escapes : decode (Byte 27 ∷ Byte 27 ∷ Pause ∷ []) ≡ key_action keys.Esc ∷ key_action keys.Esc ∷ []
two_escapes = refl

escape_and_key : actions (27 ∷ csi "A") ≡ key_action keys.Esc ∷ key_action keys.Up ∷ []
escape_and_key = refl

alt_o : decode (Byte 27 ∷ Byte 79 ∷ Pause ∷ []) ≡ key_action (keys.Alt 79) ∷ []
alt_o = refl

alt_o_and_key : actions (27 ∷ 79 ∷ csi "A") ≡ key_action (keys.Alt 79) ∷ key_action keys.Up ∷ []
alt_o_and_key = refl

-- a sequence that is cut by a pause, by another one, and by Ctrl-\
cut_by_pause : decode (Byte 27 ∷ Byte 91 ∷ Pause ∷ Byte 65 ∷ []) ≡ key_action (keys.Char 65) ∷ []
unfolding char_width
cut_by_pause = refl

cut_by_key : actions (csi "1;" ++ csi "A") ≡ key_action keys.Up ∷ []
cut_by_key = refl

-- of a pasted text a Tab, a line end and a sequence are nothing, and behind it they are keys again
pasted : actions (csi "200~" ++ codes "a" ++ 9 ∷ 13 ∷ 27 ∷ 98 ∷ csi "Z" ++ 3 ∷ codes "b" ++ csi "201~" ++ 13 ∷ [])
    ≡ key_action (keys.Char 97) ∷ key_action (keys.Char 98) ∷ key_action keys.Enter ∷ []
unfolding char_width
pasted = refl

-- Ctrl-\ leaves within a paste, too; a pause doesn't end it
pasted_quit : decode (map Byte (csi "200~") ++ Byte 28 ∷ Pause ∷ Byte 13 ∷ []) ≡ Quit ∷ []
pasted_quit = refl

-- the size of a terminal, in cells alone and as its corner, and that it is ready
reports : actions (csi "8;24;80t" ++ csi "24;80R" ++ csi "4;600;800t" ++ csi "t" ++ csi "0n" ++ csi "3n")
    ≡ Resized (record { columns = 80; rows = 24 }) ∷ Resized (record { columns = 80; rows = 24 }) ∷ Ready ∷ []
reports = refl

cut_by_quit : actions (csi "1;" ++ 28 ∷ []) ≡ Quit ∷ []
cut_by_quit = refl

escape_and_quit : actions (27 ∷ 28 ∷ []) ≡ Quit ∷ []
escape_and_quit = refl

quit_by_number : actions (csi "92;5u") ≡ Quit ∷ []
quit_by_number = refl

-- what means nothing: keys held with Shift, Ctrl or Alt, F13, pastes, answers of the terminal
nothing : map actions
    (csi "1;1R" ∷ csi "1;2A" ∷ csi "1;5C" ∷ csi "15;2~" ∷ csi "1;3P" ∷ csi "25~" ∷ csi "200~" ∷ csi "?1;2c"
    ∷ csi "I" ∷ csi "O" ∷ csi ">0;276;0c" ∷ csi "97;5;1;1u" ∷ csi "E" ∷ csi "[F" ∷ ss3 "p" ∷ ss3 "2P"
    ∷ (27 ∷ 59 ∷ []) ∷ (27 ∷ 13 ∷ []) ∷ (27 ∷ 127 ∷ []) ∷ (27 ∷ 195 ∷ 169 ∷ [])
    ∷ (27 ∷ codes "]11;rgb:0000/0000/0000" ++ 7 ∷ []) ∷ (27 ∷ codes "]11;rgb:0000/0000/0000" ++ 27 ∷ 92 ∷ [])
    ∷ csi "000000000000000000000000000000A" ∷ (0 ∷ 29 ∷ 30 ∷ 31 ∷ []) ∷ [])
    ≡ [] ∷ [] ∷ [] ∷ [] ∷ [] ∷ [] ∷ [] ∷ [] ∷ [] ∷ [] ∷ [] ∷ [] ∷ [] ∷ [] ∷ [] ∷ [] ∷ [] ∷ [] ∷ [] ∷ [] ∷ [] ∷ [] ∷ [] ∷ [] ∷ []
unfolding char_width
nothing = refl

-- 32 bytes are not too many
long : actions (csi "00000000000000000000000000000A") ≡ key_action keys.Up ∷ []
long = refl

-- characters of one to four bytes. Whether one takes a column is left open here
abbrev typed : ℕ → List Action → List Action
typed c actions = before (heard_while false (typed_char c)) actions

typed_characters : actions (195 ∷ 169 ∷ 226 ∷ 130 ∷ 172 ∷ 240 ∷ 157 ∷ 132 ∷ 158 ∷ 194 ∷ 133 ∷ 239 ∷ 191 ∷ 191 ∷ 244 ∷ 143 ∷ 191 ∷ 191 ∷ [])
    ≡ typed 233 (typed 8364 (typed 119070 (typed 133 (typed 65535 (typed 1114111 [])))))
typed_characters = refl

typed_text : actions (codes " a~") ≡ map (λ c. key_action (keys.Char c)) (codes " a~")
unfolding char_width
typed_text = refl

-- what is no UTF-8: a long form, a surrogate, a number that is too great, a byte of the middle; a cut character before a letter
malformed : actions (192 ∷ 175 ∷ 224 ∷ 130 ∷ 172 ∷ 237 ∷ 160 ∷ 128 ∷ 244 ∷ 144 ∷ 128 ∷ 128 ∷ 245 ∷ 128 ∷ 255 ∷ []) ≡ []
malformed = refl

cut_character : actions (226 ∷ 130 ∷ 65 ∷ []) ≡ key_action (keys.Char 65) ∷ []
unfolding char_width
cut_character = refl

unfinished_character : left (bytes (65 ∷ 226 ∷ 130 ∷ [])) ≡ record { bytes = 226 ∷ 130 ∷ []; is_pasting = false }
unfolding char_width
unfinished_character = refl

-- the mouse: the left button, also with a key held; the others and the wheel are nothing
clicks : actions (csi "<0;1;1M" ++ csi "<32;10;5M" ++ csi "<0;80;25m")
    ≡ Event (events.Down (at 0 0)) ∷ Event (events.Move (at 9 4)) ∷ Event (events.Up (at 79 24)) ∷ []
clicks = refl

clicks_with_control : actions (csi "<16;3;2M" ++ csi "<48;3;3M" ++ csi "<16;3;3m")
    ≡ Event (events.Down (at 2 1)) ∷ Event (events.Move (at 2 2)) ∷ Event (events.Up (at 2 2)) ∷ []
clicks_with_control = refl

other_buttons : actions (csi "<2;3;2M" ++ csi "<2;3;2m" ++ csi "<64;3;2M" ++ csi "<35;3;2M" ++ csi "<0;3M" ++ csi "<0;3;2;1M" ++ csi "0;3;2M")
    ≡ []
other_buttons = refl

far : actions (csi "<0;99999999999999999999;0M") ≡ Event (events.Down (at 9999 0)) ∷ []
far = refl

old_reports : actions (csi "M" ++ 32 ∷ 33 ∷ 33 ∷ csi "M" ++ 64 ∷ 42 ∷ 37 ∷ csi "M" ++ 35 ∷ 42 ∷ 255 ∷ csi "M" ++ 34 ∷ 42 ∷ 37 ∷ [])
    ≡ Event (events.Down (at 0 0)) ∷ Event (events.Move (at 9 4)) ∷ Event (events.Up (at 9 222)) ∷ []
old_reports = refl
