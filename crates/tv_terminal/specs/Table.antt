-- The table: what a terminal's bytes mean, once a sequence of them is whole.
use Rattle.std.specs.Prelude.{ℕ, ◌+◌, ◌-◌, ◌%◌, min, pos, Bool, ◌&&◌, ◌||◌, not, nat_lt, nat_le, ◌==◌}
use Rattle.std.specs.Prelude.{Option, Some, None, option_map, if◌then◌else◌}
use Rattle.std.specs.Char.{is_ascii_digit, is_ascii_lowercase, is_ascii_uppercase}
use Rattle.std.specs.Int.{is_in_range}
use Rattle.tv_cells.specs.Glyph.{is_narrow}
use Rattle.tv_cells.specs.declared.rect.Point.{Point}
use Rattle.tv_event.specs.declared.event.Event.TheVariants as events
use Rattle.tv_event.specs.declared.event.Key.{Key}
use Rattle.tv_event.specs.declared.event.Key.TheVariants as keys
use Rattle.tv_terminal.specs.declared.action.Action.{Action}
use Rattle.tv_terminal.specs.declared.action.Action.TheVariants.{Event, Quit, Ready, Resized}
use Rattle.tv_terminal.specs.declared.numbers.Numbers.{Numbers}
use Rattle.tv_terminal.specs.declared.numbers.Numbers.TheVariants.{One, Two, Three, Other}
use lib.Utf8.{scalar}

-- a key that was pressed
abbrev pub key_action : Key → Action
key_action key = Event (events.Key key)

-- a character that was typed: one that takes a column
abbrev pub typed_char : ℕ → Option Action
typed_char c = if is_narrow c then Some (key_action (keys.Char c)) else None

-- the same by its number, which may be none of a character
abbrev pub typed_code : ℕ → Option Action
typed_code c = if scalar c then typed_char c else None

-- a byte below 128 that stands for itself. Ctrl-H, Ctrl-I, Ctrl-J and Ctrl-M are Backspace, Tab, Enter and
-- Enter
abbrev pub ascii : ℕ → Option Action
ascii b =
    if b == 9 then Some (key_action keys.Tab)
    else if b == 10 || b == 13 then Some (key_action keys.Enter)
    else if b == 8 || b == 127 then Some (key_action keys.Backspace)
    else if b == 28 then Some Quit
    else if is_in_range 1 26 b then Some (key_action (keys.Ctrl (b + 64)))
    else typed_char b

-- ESC and a letter or a digit
abbrev pub alt : ℕ → Option Action
alt b =
    if is_ascii_lowercase b then Some (key_action (keys.Alt (b - 32)))
    else if is_ascii_uppercase b || is_ascii_digit b then Some (key_action (keys.Alt b))
    else None

-- Ctrl with a letter, or with a backslash
abbrev pub ctrl_coded : ℕ → Option Action
ctrl_coded c =
    if is_ascii_lowercase c then Some (key_action (keys.Ctrl (c - 32)))
    else if is_ascii_uppercase c then Some (key_action (keys.Ctrl c))
    else if c == 92 then Some Quit
    else None

-- a key by the number of its character and that of the keys held with it: 1 none, 2 Shift, 3 Alt, 5 Ctrl
abbrev pub plain_code : ℕ → Option Action
plain_code c = if c == 27 then Some (key_action keys.Esc) else if nat_lt c 128 then ascii c else typed_code c

abbrev pub coded : ℕ → ℕ → Option Action
coded c held =
    if c == 9 && held == 2 then Some (key_action keys.ShiftTab)
    else if nat_le held 2 then plain_code c
    else if held == 3 then alt c
    else if held == 5 then ctrl_coded c
    else None

-- ESC [ number ~
abbrev pub key_of_number : ℕ → Option Key
key_of_number n =
    if n == 1 || n == 7 then Some keys.Home
    else if n == 2 then Some keys.Insert
    else if n == 3 then Some keys.Delete
    else if n == 4 || n == 8 then Some keys.End
    else if n == 5 then Some keys.PageUp
    else if n == 6 then Some keys.PageDown
    else if is_in_range 11 15 n then Some (keys.Function (n - 10))
    else if is_in_range 17 21 n then Some (keys.Function (n - 11))
    else if is_in_range 23 24 n then Some (keys.Function (n - 12))
    else None

-- the same with Ctrl
abbrev pub ctrl_key_of_number : ℕ → Option Key
ctrl_key_of_number n =
    if n == 5 then Some keys.CtrlPageUp else if n == 6 then Some keys.CtrlPageDown else None

-- ESC [ letter, or ESC O letter; a number before the letter is 1
abbrev pub lettered : ℕ → Option Key
lettered b =
    if b == 65 then Some keys.Up
    else if b == 66 then Some keys.Down
    else if b == 67 then Some keys.Right
    else if b == 68 then Some keys.Left
    else if b == 70 then Some keys.End
    else if b == 72 then Some keys.Home
    else None

-- those with no number before the letter, since ESC [ 24;80R is a report of the cursor
abbrev pub bare : ℕ → Option Key
bare b =
    if is_in_range 80 83 b then Some (keys.Function (b - 79))
    else if b == 90 then Some keys.ShiftTab
    else if b == 77 then Some keys.Enter
    else lettered b

-- ESC [ [ letter, as the Linux console sends F1 to F5
abbrev pub console : ℕ → Option Key
console b = if is_in_range 65 69 b then Some (keys.Function (b - 64)) else None

-- numbers before a `~`, a `u` or a letter
abbrev pub by_tilde : Numbers → Option Action
by_tilde (One n) = option_map key_action (key_of_number n)
by_tilde (Two n held) =
    if nat_le held 1 then option_map key_action (key_of_number n)
    else if held == 5 then option_map key_action (ctrl_key_of_number n)
    else None
by_tilde (Three n held c) = if n == 27 then coded c held else None
by_tilde Other = None

abbrev pub by_code : Numbers → Option Action
by_code (One c) = coded c 1
by_code (Two c held) = coded c held
by_code _ = None

abbrev pub by_letter : Numbers → ℕ → Option Key
by_letter (One n) last = if n == 0 then bare last else if n == 1 then lettered last else None
by_letter (Two n held) last = if nat_le n 1 && nat_le held 1 then lettered last else None
by_letter _ last = None

-- ESC [ row ; column R, where its cursor stands, which is in its corner when it is asked for its size. F3 has row 1
abbrev pub corner_report : Numbers → Option Action
corner_report (Two row column) =
    if nat_lt 1 row then Some (Resized (record { columns = column; rows = row }))
    else option_map key_action (by_letter (Two row column) 82)
corner_report numbers = option_map key_action (by_letter numbers 82)

-- ESC [ 8 ; rows ; columns t, the size of the terminal in cells
abbrev pub size_report : Numbers → Option Action
size_report (Three n rows columns) = if n == 8 then Some (Resized (record { columns = columns; rows = rows })) else None
size_report _ = None

-- ESC [ 0 n, that it is ready
abbrev pub ready_report : Numbers → Option Action
ready_report (One n) = if n == 0 then Some Ready else None
ready_report _ = None

abbrev pub of_keys : Numbers → ℕ → Option Action
of_keys numbers last =
    if last == 126 then by_tilde numbers
    else if last == 117 then by_code numbers
    else if last == 116 then size_report numbers
    else if last == 110 then ready_report numbers
    else if last == 82 then corner_report numbers
    else option_map key_action (by_letter numbers last)

-- a column or a row, which a terminal counts from 1. What lies beyond is kept near
abbrev pub near_place : ℕ → ℕ
near_place n = min 9999 (n - 1)

abbrev pub point : ℕ → ℕ → Point
point x y = record { x = pos (near_place x); y = pos (near_place y) }

-- The number of a mouse's report has the button in bits 0 and 1, 0 for the left one, Shift, Alt and Ctrl in
-- bits 2 to 4, and in bit 5 whether the mouse moved. From 64 on it is the wheel.
abbrev pub is_left : ℕ → Bool
is_left n = nat_lt n 64 && n % 4 == 0

-- the left button is down, and was before if the mouse moved
abbrev pub held : ℕ → Point → Action
held n p = if nat_lt n 32 then Event (events.Down p) else Event (events.Move p)

-- ESC [ < number ; column ; row, and M, or m where the button goes up
abbrev pub mouse : ℕ → Point → ℕ → Option Action
mouse n p last =
    if not (is_left n) then None
    else if last == 77 then Some (held n p)
    else if last == 109 && nat_lt n 32 then Some (Event (events.Up p))
    else None

abbrev pub of_mouse : Numbers → ℕ → Option Action
of_mouse (Three n x y) last = mouse n (point x y) last
of_mouse _ last = None

-- ESC [ M and three bytes, which are 32 above the number, the column and the row. Button 3 is that any button
-- goes up
abbrev pub old_mouse : (n x y : ℕ) → Option Action
old_mouse n x y =
    if nat_lt n 32 && n % 4 == 3 then Some (Event (events.Up (point x y)))
    else mouse n (point x y) 77
