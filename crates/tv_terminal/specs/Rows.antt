-- The table by rows: what terminals send, and the key that it is. Ctrl-H, Ctrl-I, Ctrl-J and Ctrl-M have rows
-- only where a terminal sends a character's number, and Esc has one more, ESC and a pause.
use Prim.Native.String.{String}
use Rattle.std.specs.Prelude.{ℕ, ◌+◌, ◌-◌, List, [], ◌∷◌, ◌++◌, map, codes}
use Rattle.tv_event.specs.declared.event.Key.{Key}
use Rattle.tv_event.specs.declared.event.Key.TheVariants as keys

-- behind ESC [, and behind ESC O
abbrev pub csi : String → List ℕ
csi text = 27 ∷ 91 ∷ codes text

abbrev pub ss3 : String → List ℕ
ss3 text = 27 ∷ 79 ∷ codes text

abbrev pub KeyRow : Type 0
KeyRow = List ℕ × Key

-- Tab, Enter, Esc, Backspace, Ins and Del
abbrev pub edit_rows : List KeyRow
edit_rows =
    (9 ∷ [], keys.Tab)
    ∷ (csi "Z", keys.ShiftTab) ∷ (csi "9;2u", keys.ShiftTab) ∷ (csi "27;2;9~", keys.ShiftTab)
    ∷ (13 ∷ [], keys.Enter) ∷ (10 ∷ [], keys.Enter) ∷ (ss3 "M", keys.Enter)
    ∷ (csi "27u", keys.Esc)
    ∷ (127 ∷ [], keys.Backspace) ∷ (8 ∷ [], keys.Backspace)
    ∷ (csi "2~", keys.Insert) ∷ (csi "3~", keys.Delete) ∷ []

abbrev pub cursor_rows : List KeyRow
cursor_rows =
    (csi "A", keys.Up) ∷ (ss3 "A", keys.Up) ∷ (csi "1;1A", keys.Up)
    ∷ (csi "B", keys.Down) ∷ (ss3 "B", keys.Down)
    ∷ (csi "C", keys.Right) ∷ (ss3 "C", keys.Right)
    ∷ (csi "D", keys.Left) ∷ (ss3 "D", keys.Left)
    ∷ (csi "H", keys.Home) ∷ (ss3 "H", keys.Home) ∷ (csi "1~", keys.Home) ∷ (csi "7~", keys.Home)
    ∷ (csi "F", keys.End) ∷ (ss3 "F", keys.End) ∷ (csi "4~", keys.End) ∷ (csi "8~", keys.End)
    ∷ (csi "5~", keys.PageUp) ∷ (csi "6~", keys.PageDown)
    ∷ (csi "5;5~", keys.CtrlPageUp) ∷ (csi "6;5~", keys.CtrlPageDown) ∷ []

abbrev pub function_rows : List KeyRow
function_rows =
    (ss3 "P", keys.Function 1) ∷ (csi "P", keys.Function 1) ∷ (csi "11~", keys.Function 1)
    ∷ (csi "[A", keys.Function 1)
    ∷ (ss3 "Q", keys.Function 2) ∷ (csi "Q", keys.Function 2) ∷ (csi "12~", keys.Function 2)
    ∷ (csi "[B", keys.Function 2)
    ∷ (ss3 "R", keys.Function 3) ∷ (csi "R", keys.Function 3) ∷ (csi "13~", keys.Function 3)
    ∷ (csi "[C", keys.Function 3)
    ∷ (ss3 "S", keys.Function 4) ∷ (csi "S", keys.Function 4) ∷ (csi "14~", keys.Function 4)
    ∷ (csi "[D", keys.Function 4)
    ∷ (csi "15~", keys.Function 5) ∷ (csi "[E", keys.Function 5)
    ∷ (csi "17~", keys.Function 6) ∷ (csi "18~", keys.Function 7) ∷ (csi "19~", keys.Function 8)
    ∷ (csi "20~", keys.Function 9) ∷ (csi "21~", keys.Function 10)
    ∷ (csi "23~", keys.Function 11) ∷ (csi "24~", keys.Function 12) ∷ []

-- a letter with Ctrl as its byte, and with Ctrl and Alt by its number
abbrev pub control_row : ℕ → KeyRow
control_row letter = ((letter - 64) ∷ [], keys.Ctrl letter)

abbrev pub control_rows : List KeyRow
control_rows =
    map control_row (codes "ABCDEFGKLNOPQRSTUVWXYZ")
    ++ (csi "104;5u", keys.Ctrl 72) ∷ (csi "105;5u", keys.Ctrl 73) ∷ (csi "106;5u", keys.Ctrl 74)
    ∷ (csi "109;5u", keys.Ctrl 77)
    ∷ (csi "27;5;104~", keys.Ctrl 72) ∷ (csi "99;5u", keys.Ctrl 67) ∷ []

-- ESC and a letter, of either case, or a digit. ESC O and a pause is Alt-O too
abbrev pub alt_row : ℕ → KeyRow
alt_row ch = (27 ∷ ch ∷ [], keys.Alt ch)

abbrev pub small_alt_row : ℕ → KeyRow
small_alt_row letter = (27 ∷ (letter + 32) ∷ [], keys.Alt letter)

abbrev pub alt_rows : List KeyRow
alt_rows =
    map small_alt_row (codes "ABCDEFGHIJKLMNOPQRSTUVWXYZ")
    ++ map alt_row (codes "ABCDEFGHIJKLMNPQRSTUVWXYZ0123456789")
    ++ (csi "120;3u", keys.Alt 88) ∷ (csi "27;3;120~", keys.Alt 88) ∷ []

abbrev pub key_rows : List KeyRow
key_rows = edit_rows ++ cursor_rows ++ function_rows ++ control_rows ++ alt_rows
