-- A terminal, as what it makes of bytes: the sequences of ECMA-48 and of xterm that are used here. Columns
-- and rows count from 0, and a sequence counts them from 1.
use Rattle.std.specs.Prelude.{ℕ, ◌+◌, ◌-◌, ◌*◌, List, [], ◌∷◌, Option, Some, None, Bool, true, false, ◌&&◌}
use Rattle.std.specs.Prelude.{◌||◌, ◌==◌, nat_le, nat_lt, min, max, reverse, if◌then◌else◌}
use Rattle.tv_cells.specs.Glyph.{is_narrow}

-- ---- what it shows

-- a colour: the one that no number has set; of the terminal's own sixteen one by its number from 0 on; of the 256
-- one by its index from 16 on, which is fixed
pub data Colour : Type 0 where
  Plain : Colour
  Own : (number : ℕ) → Colour
  Fixed : (index : ℕ) → Colour

-- a place: its character, and its colours
pub record Tile : Type 0 where
  pub ch : ℕ
  pub front : Colour
  pub back : Colour

-- the normal screen, while the alternate one shows
pub record Covered : Type 0 where
  pub cells : ℕ → ℕ → Tile
  pub column : ℕ
  pub row : ℕ

-- a cell in each column and row; the cursor, whose column is the count of columns where it stands behind the
-- last; the colours to come; the mouse, and whether its reports are of the long form; whether a key with Meta,
-- or Alt, is sent as ESC and the key; whether a pasted text is sent in brackets; how often the bell rang
pub record Display : Type 0 where
  pub columns : ℕ
  pub rows : ℕ
  pub cells : ℕ → ℕ → Tile
  pub column : ℕ
  pub row : ℕ
  pub front : Colour
  pub back : Colour
  pub has_cursor : Bool
  pub has_mouse : Bool
  pub has_long_reports : Bool
  pub has_meta_escapes : Bool
  pub has_alt_escapes : Bool
  pub has_paste_brackets : Bool
  pub bells : ℕ
  pub covered : Option Covered
  -- it was told what isn't said here: a character behind the last column, or another sequence
  pub is_lost : Bool

-- ---- what changes it

abbrev pub lost : Display → Display
lost d = record d { is_lost = true }

-- the cells with another one at a place
abbrev pub with_tile : (ℕ → ℕ → Tile) → ℕ → ℕ → Tile → ℕ → ℕ → Tile
with_tile cells column row tile x y = if (x == column) && (y == row) then tile else cells x y

-- a character of one column at the cursor, which goes behind it
abbrev pub put : ℕ → Display → Display
put ch d =
    if is_narrow ch && nat_lt d.column d.columns
    then record d {
      cells = with_tile d.cells d.column d.row (record { ch = ch; front = d.front; back = d.back });
      column = d.column + 1;
    }
    else lost d

-- the place of a number from 1 on, of which there are so many; 0 means 1
abbrev pub cell_number : (count number : ℕ) → ℕ
cell_number count number = if nat_le number count then number - 1 else count - 1

abbrev pub cursor_placed : (row column : ℕ) → Display → Display
cursor_placed row column d = record d { column = cell_number d.columns column; row = cell_number d.rows row }

-- so many columns to the right, 0 meaning 1, and no farther than the last
abbrev pub moved_right : ℕ → Display → Display
moved_right n d = record d { column = min (d.column + max n 1) (d.columns - 1) }

-- a space in the colours to come
abbrev pub space_in : Display → Tile
space_in d = record { ch = 32; front = d.front; back = d.back }

-- all cells are spaces
abbrev pub cleared : Display → Display
cleared d = record d { cells = λ _ _. space_in d }

-- and those of the cursor's row from the cursor on
abbrev pub row_cleared : Display → Display
row_cleared d =
    record d { cells = λ x y. if (y == d.row) && nat_le d.column x then space_in d else d.cells x y }

-- a number of `m`: 0 for the plain colours, eight for the front and eight for the ground behind, and the same
-- bright
abbrev pub colour_set : ℕ → Display → Display
colour_set n d =
    if n == 0 then record d { front = Plain; back = Plain }
    else if nat_le 30 n && nat_le n 37 then record d { front = Own (n - 30) }
    else if nat_le 90 n && nat_le n 97 then record d { front = Own (n - 82) }
    else if nat_le 40 n && nat_le n 47 then record d { back = Own (n - 40) }
    else if nat_le 100 n && nat_le n 107 then record d { back = Own (n - 92) }
    else lost d

-- three numbers of `m`, 38 or 48, 5 and an index: one of the 256 for the front, or for the ground behind
abbrev pub is_indexing : (layer five : ℕ) → Bool
is_indexing layer five = ((layer == 38) || (layer == 48)) && (five == 5)

abbrev pub index_set : (layer index : ℕ) → Display → Display
index_set layer index d =
    if nat_lt index 16 || nat_lt 255 index then lost d
    else if layer == 38 then record d { front = Fixed index }
    else record d { back = Fixed index }

-- all numbers of `m`, one after the other
abbrev pub colours_set : List ℕ → Display → Display
colours_set [] d = d
colours_set (a ∷ []) d = colour_set a d
colours_set (a ∷ b ∷ []) d = colour_set b (colour_set a d)
colours_set (a ∷ b ∷ c ∷ more) d =
    if is_indexing a b then colours_set more (index_set a c d)
    else colours_set (b ∷ c ∷ more) (colour_set a d)

-- the normal screen: the one that shows, unless the alternate one does
abbrev pub kept_of : Option Covered → Display → Covered
kept_of None d = record { cells = d.cells; column = d.column; row = d.row }
kept_of (Some c) d = c

-- the alternate screen comes up empty, and is emptied where it is up
abbrev pub covering : Display → Display
covering d = cleared (record d { covered = Some (kept_of d.covered d) })

-- the normal screen comes back as it was
abbrev pub uncovered : Option Covered → Display → Display
uncovered None d = d
uncovered (Some c) d =
    record d { cells = c.cells; column = c.column; row = c.row; covered = None }

abbrev pub switched : (mode : ℕ) (is_on : Bool) → Display → Display
switched mode is_on d =
    if mode == 25 then record d { has_cursor = is_on }
    else if mode == 1002 then record d { has_mouse = is_on }
    else if mode == 1006 then record d { has_long_reports = is_on }
    else if mode == 1036 then record d { has_meta_escapes = is_on }
    else if mode == 1039 then record d { has_alt_escapes = is_on }
    else if mode == 2004 then record d { has_paste_brackets = is_on }
    else if mode == 1049 then (if is_on then covering d else uncovered d.covered d)
    else lost d

-- the bell rings once more
abbrev pub rung : Display → Display
rung d = record d { bells = d.bells + 1 }

-- ---- sequences

-- between sequences; behind ESC; behind ESC [ with the numbers so far, whether nothing stands there yet, and
-- whether a `?` did so first; or in a character, of which so many more bytes are to come after the next, and
-- which would have had fewer bytes if it were below the least
pub data Mode : Type 0 where
  Ground : Mode
  Escape : Mode
  Numbers : (is_first is_private : Bool) (last : ℕ) (before : List ℕ) → Mode
  Character : (least more part : ℕ) → Mode

pub record Terminal : Type 0 where
  pub mode : Mode
  pub display : Display

abbrev pub in_mode : Mode → Display → Terminal
in_mode m d = record { mode = m; display = d }

abbrev pub ground : Display → Terminal
ground d = in_mode Ground d

-- the last byte of a sequence: H (72) behind two numbers places the cursor, C (67) moves it right, m (109) sets
-- colours by any numbers, J (74) clears the screen and K (75) the rest of a row, and with a `?` before the only
-- number h (104) and l (108) switch a mode
abbrev pub after_sequence : ℕ → Bool → ℕ → List ℕ → Display → Display
after_sequence c true last [] d =
    if c == 104 then switched last true d else if c == 108 then switched last false d else lost d
after_sequence c true last before d = lost d
after_sequence c false last [] d =
    if c == 109 then colour_set last d
    else if c == 67 then moved_right last d
    else if (c == 74) && (last == 2) then cleared d
    else if (c == 75) && (last == 0) then row_cleared d
    else lost d
after_sequence c false last (first ∷ []) d =
    if c == 109 then colours_set (first ∷ last ∷ []) d
    else if c == 72 then cursor_placed first last d
    else lost d
after_sequence c false last before d = if c == 109 then colours_set (reverse (last ∷ before)) d else lost d

abbrev pub is_decimal_digit : ℕ → Bool
is_decimal_digit c = nat_le 48 c && nat_le c 57

-- a byte between sequences: a character or its first byte in UTF-8, ESC (27), or BEL (7)
abbrev pub first_told : ℕ → Display → Terminal
first_told c d =
    if c == 27 then in_mode Escape d
    else if nat_lt c 128 then ground (if c == 7 then rung d else put c d)
    else if nat_lt c 192 then ground (lost d)
    else if nat_lt c 224 then in_mode (Character 128 0 (c - 192)) d
    else if nat_lt c 240 then in_mode (Character 2048 1 (c - 224)) d
    else if nat_lt c 248 then in_mode (Character 65536 2 (c - 240)) d
    else ground (lost d)

-- a character that had as few bytes as it needs
abbrev pub put_shortest : (least ch : ℕ) → Display → Display
put_shortest least ch d = if nat_le least ch then put ch d else lost d

abbrev pub byte_told : Mode → ℕ → Display → Terminal
byte_told Ground c d = first_told c d
byte_told Escape c d = if c == 91 then in_mode (Numbers true false 0 []) d else ground (lost d)
byte_told (Numbers is_first is_private last before) c d =
    if is_decimal_digit c then in_mode (Numbers false is_private (last * 10 + (c - 48)) before) d
    else if c == 59 then in_mode (Numbers false is_private 0 (last ∷ before)) d
    else if is_first && (c == 63) then in_mode (Numbers false true last before) d
    else ground (after_sequence c is_private last before d)
byte_told (Character least more part) c d =
    if nat_le 128 c && nat_lt c 192
    then (if more == 0
    then ground (put_shortest least (part * 64 + (c - 128)) d)
    else in_mode (Character least (more - 1) (part * 64 + (c - 128))) d)
    else ground (lost d)

-- what a terminal is after some bytes
abbrev pub told : Terminal → List ℕ → Terminal
told t [] = t
told t (c ∷ cs) = told (byte_told t.mode c t.display) cs
