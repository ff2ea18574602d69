-- What a terminal is told, computed.
use Rattle.std.proofs.Common.{◌≡◌, [], ◌∷◌, ◌++◌, Some, None, true, false, refl, codes}
use lib.Utf8.{encode}
use Rattle.unicode_width.specs.Width.{char_width}
use Rattle.tv_cells.specs.Glyph.{glyph}
use Rattle.tv_terminal.specs.Written.{begin_bytes, bell_bytes, cell_bytes, cursor_bytes, end_bytes}
use Rattle.tv_terminal.specs.Terminal.{Character, Display, Escape, Fixed, Own, Plain, ground, in_mode, told}
use Rattle.tv_terminal.specs.declared.colour.Colours.TheVariants.{Indexed, Sixteen}

-- a terminal of 80 by 24 with an x in each place
abbrev plain : Display
plain = record {
  columns = 80;
  rows = 24;
  cells = λ _ _. record { ch = 120; front = Plain; back = Plain };
  column = 3;
  row = 5;
  front = Plain;
  back = Plain;
  has_cursor = true;
  has_mouse = false;
  has_long_reports = false;
  has_meta_escapes = false;
  has_alt_escapes = false;
  has_paste_brackets = false;
  bells = 0;
  covered = None;
  is_lost = false;
}

-- two characters from row 12 and column 30 on, counted from 1, in black on white
abbrev two : Display
two = (told (ground plain) (27 ∷ codes "[12;30H" ++ 27 ∷ codes "[30;47mAB")).display

first_shows : two.cells 29 11 ≡ record { ch = 65; front = Own 0; back = Own 7 }
unfolding char_width
first_shows = refl

second_shows : two.cells 30 11 ≡ record { ch = 66; front = Own 0; back = Own 7 }
unfolding char_width
second_shows = refl

next_stays : two.cells 31 11 ≡ record { ch = 120; front = Plain; back = Plain }
unfolding char_width
next_stays = refl

cursor_behind : two.column ≡ 31
unfolding char_width
cursor_behind = refl

-- white on light grey, of the 256
indexed_shows : (told (ground plain) (27 ∷ codes "[38;5;231;48;5;248mA")).display.cells 3 5 ≡ record { ch = 65; front = Fixed 231; back = Fixed 248 }
unfolding char_width
indexed_shows = refl

-- in the other order, beside one of the sixteen, and one alone
other_order : told (ground plain) (27 ∷ codes "[48;5;248;38;5;231m") ≡ told (ground plain) (27 ∷ codes "[38;5;231;48;5;248m")
other_order = refl

mixed : told (ground plain) (27 ∷ codes "[38;5;31;41m") ≡ ground (record plain { front = Fixed 31; back = Own 1 })
mixed = refl

alone : told (ground plain) (27 ∷ codes "[48;5;31m") ≡ ground (record plain { back = Fixed 31 })
alone = refl

-- what is cut off, an index that isn't fixed, and one that there isn't, aren't said
cut_off : (told (ground plain) (27 ∷ codes "[38;5m")).display.is_lost ≡ true
cut_off = refl

not_fixed : (told (ground plain) (27 ∷ codes "[38;5;15m")).display.is_lost ≡ true
not_fixed = refl

beyond : (told (ground plain) (27 ∷ codes "[48;5;256m")).display.is_lost ≡ true
beyond = refl

-- ESC alone, and the first byte of é, are unfinished
escape_alone : told (ground plain) (27 ∷ []) ≡ in_mode Escape plain
escape_alone = refl

half_a_character : told (ground plain) (195 ∷ []) ≡ in_mode (Character 128 0 3) plain
half_a_character = refl

-- a sequence in two pieces
in_pieces : told (told (ground plain) (27 ∷ codes "[1")) (codes "2;3H") ≡ told (ground plain) (27 ∷ codes "[12;3H")
in_pieces = refl

-- a `?` that comes late, a mode beside another, and three numbers of a place aren't said
late_mark : (told (ground plain) (27 ∷ codes "[1049?h")).display.is_lost ≡ true
unfolding char_width
late_mark = refl

two_modes : (told (ground plain) (27 ∷ codes "[?5;1049h")).display.is_lost ≡ true
two_modes = refl

three_numbers : (told (ground plain) (27 ∷ codes "[1;5;9H")).display.is_lost ≡ true
three_numbers = refl

-- nor is a character in more bytes than it needs: an A in two, a / in three
long_letter : (told (ground plain) (193 ∷ 129 ∷ [])).display.is_lost ≡ true
long_letter = refl

long_slash : (told (ground plain) (224 ∷ 128 ∷ 175 ∷ [])).display.is_lost ≡ true
long_slash = refl

-- the last column takes a character, and what would come behind it isn't said
last_column : (told (ground plain) (27 ∷ codes "[1;80Ha")).display.is_lost ≡ false
unfolding char_width
last_column = refl

behind_it : (told (ground plain) (27 ∷ codes "[1;80Hab")).display.is_lost ≡ true
unfolding char_width
behind_it = refl

-- red on blue, and bright yellow on grey
red_on_blue : cell_bytes Sixteen None None 0 0 (glyph 65 0x14) ≡ 27 ∷ codes "[1;1H" ++ 27 ∷ codes "[31;44m" ++ codes "A"
unfolding encode
red_on_blue = refl

yellow_on_grey : cell_bytes Sixteen None None 79 23 (glyph 0xE9 0x7E) ≡ 27 ∷ codes "[24;80H" ++ 27 ∷ codes "[93;47m" ++ 195 ∷ 169 ∷ []
unfolding encode
yellow_on_grey = refl

-- the next cell in the same colours is its character alone
next_cell : cell_bytes Sixteen (Some (1, 0)) (Some 0x14) 1 0 (glyph 66 0x14) ≡ codes "B"
unfolding encode
next_cell = refl

-- a place to the right in the same row is so many columns away
in_the_row : cell_bytes Sixteen (Some (1, 0)) (Some 0x14) 5 0 (glyph 66 0x14) ≡ 27 ∷ codes "[4CB"
unfolding encode
in_the_row = refl

-- of red on blue and red on green the ground alone differs
other_ground : cell_bytes Sixteen (Some (1, 0)) (Some 0x14) 1 0 (glyph 66 0x24) ≡ 27 ∷ codes "[42mB"
unfolding encode
other_ground = refl

-- the same in colours of the 256: black on light grey, and then another ground
black_on_grey : cell_bytes Indexed None None 0 0 (glyph 65 0x70) ≡ 27 ∷ codes "[1;1H" ++ 27 ∷ codes "[38;5;16;48;5;248mA"
unfolding encode
black_on_grey = refl

other_index : cell_bytes Indexed (Some (1, 0)) (Some 0x14) 1 0 (glyph 66 0x24) ≡ 27 ∷ codes "[48;5;34mB"
unfolding encode
other_index = refl

-- nothing is written for a cursor that shows where it has to
cursor_still : cursor_bytes (Some (3, 4)) (Some true) (Some (3, 4)) ≡ []
cursor_still = refl

-- BEL rings and shows nothing
rings : told (ground plain) (65 ∷ bell_bytes) ≡ told (ground (record plain { bells = 1 })) (65 ∷ [])
unfolding char_width
rings = refl

-- a begin after a begin finds the same normal screen
twice_begun : told (ground plain) (begin_bytes ++ begin_bytes) ≡ told (ground plain) begin_bytes
twice_begun = refl

-- the begin and the end leave nothing behind
as_before : (told (ground plain) (begin_bytes ++ end_bytes)) ≡ ground plain
as_before = refl
