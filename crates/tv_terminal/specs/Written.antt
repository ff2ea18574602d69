-- The sequences that are written.
use Rattle.std.specs.Prelude.{ℕ, ◌+◌, ◌-◌, ◌/◌, ◌%◌, ◌==◌, ◌&&◌, Bool, true, false, nat_lt, if◌then◌else◌}
use Rattle.std.specs.Prelude.{List, [], ◌∷◌, ◌++◌, Option, Some, None, encode_utf8, slice_index, codes, pos}
use Rattle.std.specs.Int.{int_gap}
use Rattle.tv_cells.specs.Glyph.{Glyph}
use Rattle.tv_cells.specs.Layers.{is_in}
use Rattle.tv_cells.specs.Rectangle.{sized}
use Rattle.tv_cells.specs.declared.rect.Point.{Point}
use Rattle.tv_terminal.specs.Terminal.{Colour, Own, Fixed}
use Rattle.tv_terminal.specs.declared.action.Size.{Size}
use Rattle.tv_terminal.specs.declared.colour.Colours.{Colours}
use Rattle.tv_terminal.specs.declared.colour.Colours.TheVariants.{Sixteen, Indexed}

-- ---- numbers and colours

-- the digits of a number below 1000
abbrev pub number_bytes : ℕ → List ℕ
number_bytes n =
    if nat_lt n 10 then (48 + n) ∷ []
    else if nat_lt n 100 then (48 + n / 10) ∷ (48 + n % 10) ∷ []
    else (48 + n / 100) ∷ (48 + n / 10 % 10) ∷ (48 + n % 10) ∷ []

-- black, blue, green, cyan, red, magenta, brown and grey, and the same bright, among a terminal's own sixteen: there
-- red is 1 and blue is 4
abbrev pub own_numbers : List ℕ
own_numbers = 0 ∷ 4 ∷ 2 ∷ 6 ∷ 1 ∷ 5 ∷ 3 ∷ 7 ∷ 8 ∷ 12 ∷ 10 ∷ 14 ∷ 9 ∷ 13 ∷ 11 ∷ 15 ∷ []

-- and those of the 240 fixed ones that are nearest to them. Index 16 + 36 r + 6 g + b has the levels 0, 95, 135,
-- 175, 215 and 255, and 232 + k is the grey 8 + 10 k. So 95 stands for 85 and 175 for 170, but for two greys, to
-- which 88 and 168 are nearer
abbrev pub fixed_indices : List ℕ
fixed_indices =
    16 ∷ 19 ∷ 34 ∷ 37 ∷ 124 ∷ 127 ∷ 130 ∷ 248 ∷ 240 ∷ 63 ∷ 83 ∷ 87 ∷ 203 ∷ 207 ∷ 227 ∷ 231 ∷ []

-- what a terminal shows for one of the sixteen
abbrev pub colour_of : Colours → ℕ → Colour
colour_of Sixteen n = Own (slice_index own_numbers n)
colour_of Indexed n = Fixed (slice_index fixed_indices n)

-- the low four bits of an attribute are its front, the others the ground behind
abbrev pub front_of : Colours → (attr : ℕ) → Colour
front_of colours attr = colour_of colours (attr % 16)

abbrev pub back_of : Colours → (attr : ℕ) → Colour
back_of colours attr = colour_of colours (attr / 16)

-- what sets one of the sixteen: from 30 on for the front, and from 40 on for the ground
abbrev pub own_parameter : (first own : ℕ) → ℕ
own_parameter first own = if nat_lt own 8 then first + own else first + 52 + own

abbrev pub parameters : Colours → (first n : ℕ) → List ℕ
parameters Sixteen first n = number_bytes (own_parameter first (slice_index own_numbers n))
parameters Indexed first n =
    number_bytes (first + 8) ++ 59 ∷ 53 ∷ 59 ∷ number_bytes (slice_index fixed_indices n)

abbrev pub front_bytes : Colours → (attr : ℕ) → List ℕ
front_bytes colours attr = parameters colours 30 (attr % 16)

abbrev pub back_bytes : Colours → (attr : ℕ) → List ℕ
back_bytes colours attr = parameters colours 40 (attr / 16)

-- ---- sequences

-- the cursor goes to a column and a row
abbrev pub place_bytes : (column row : ℕ) → List ℕ
place_bytes column row = 27 ∷ 91 ∷ number_bytes (row + 1) ++ 59 ∷ number_bytes (column + 1) ++ 72 ∷ []

-- the cursor goes so many columns to the right
abbrev pub right_bytes : ℕ → List ℕ
right_bytes n = 27 ∷ 91 ∷ number_bytes n ++ 67 ∷ []

-- one of the colours is set
abbrev pub one_colour_bytes : List ℕ → List ℕ
one_colour_bytes parameters = 27 ∷ 91 ∷ parameters ++ 109 ∷ []

-- the colours become those of an attribute
abbrev pub colour_bytes : Colours → (attr : ℕ) → List ℕ
colour_bytes colours attr =
    27 ∷ 91 ∷ front_bytes colours attr ++ 59 ∷ back_bytes colours attr ++ 109 ∷ []

-- ---- cells

-- nothing is written to get where the cursor stands, and less to get to the right of it
abbrev pub going : Option (ℕ × ℕ) → (column row : ℕ) → List ℕ
going None column row = place_bytes column row
going (Some p) column row =
    if (p.0 == column) && (p.1 == row) then []
    else if nat_lt p.0 column && (p.1 == row) then right_bytes (column - p.0)
    else place_bytes column row

-- nor for colours that are set
abbrev pub recolouring : Colours → (attr : ℕ) (is_front_set is_back_set : Bool) → List ℕ
recolouring colours attr true true = []
recolouring colours attr true false = one_colour_bytes (back_bytes colours attr)
recolouring colours attr false true = one_colour_bytes (front_bytes colours attr)
recolouring colours attr false false = colour_bytes colours attr

abbrev pub colouring : Colours → Option ℕ → ℕ → List ℕ
colouring colours None attr = colour_bytes colours attr
colouring colours (Some set) attr = recolouring colours attr (set % 16 == attr % 16) (set / 16 == attr / 16)

abbrev pub cell_bytes : Colours → Option (ℕ × ℕ) → Option ℕ → (column row : ℕ) → Glyph → List ℕ
cell_bytes colours place attr column row g =
    going place column row ++ colouring colours attr g.attr ++ encode_utf8 g.ch

-- ---- the cursor

-- the column and the row of a point, where it lies on a screen of this size
abbrev pub cursor_on : (width height : ℕ) → Option Point → Option (ℕ × ℕ)
cursor_on width height None = None
cursor_on width height (Some p) =
    if is_in (sized width height) p.x p.y then Some (int_gap (pos 0) p.x, int_gap (pos 0) p.y) else None

-- a place lies in the window, from the top left corner on
abbrev pub is_seen : Size → (place : ℕ × ℕ) → Bool
is_seen window place = nat_lt place.0 window.columns && nat_lt place.1 window.rows

-- where it lies in it
abbrev pub seen : Size → Option (ℕ × ℕ) → Option (ℕ × ℕ)
seen window None = None
seen window (Some place) = if is_seen window place then Some place else None

-- it shows, or is hidden; nothing is written where it is known to be so
abbrev pub showing : (was : Option Bool) (is_on : Bool) → List ℕ
showing (Some true) true = []
showing (Some false) false = []
showing _ true = 27 ∷ codes "[?25h"
showing _ false = 27 ∷ codes "[?25l"

-- it goes to a place and shows, or is hidden, by where it is known to stand and whether it shows
abbrev pub cursor_bytes : (place : Option (ℕ × ℕ)) (was : Option Bool) → Option (ℕ × ℕ) → List ℕ
cursor_bytes place was None = showing was false
cursor_bytes place was (Some p) = going place p.0 p.1 ++ showing was true

-- where it is known to stand then
abbrev pub place_after : (place cursor : Option (ℕ × ℕ)) → Option (ℕ × ℕ)
place_after place None = place
place_after place (Some p) = Some p

-- ---- the begin and the end

-- the alternate screen, the mouse with reports of the long form, ESC for Meta and Alt, brackets around what is
-- pasted, and all cells plain
abbrev pub begin_bytes : List ℕ
begin_bytes =
    27 ∷ codes "[?1049h" ++ 27 ∷ codes "[?1002h" ++ 27 ∷ codes "[?1006h" ++ 27 ∷ codes "[?1036h"
    ++ 27 ∷ codes "[?1039h" ++ 27 ∷ codes "[?2004h" ++ 27 ∷ codes "[0m" ++ 27 ∷ codes "[2J"

-- all of it taken back, and the cursor shows
abbrev pub end_bytes : List ℕ
end_bytes =
    27 ∷ codes "[0m" ++ 27 ∷ codes "[2J" ++ 27 ∷ codes "[?25h" ++ 27 ∷ codes "[?2004l" ++ 27 ∷ codes "[?1039l"
    ++ 27 ∷ codes "[?1036l" ++ 27 ∷ codes "[?1006l" ++ 27 ∷ codes "[?1002l" ++ 27 ∷ codes "[?1049l"

-- ---- the bell

abbrev pub bell_bytes : List ℕ
bell_bytes = 7 ∷ []
