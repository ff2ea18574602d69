-- What fills the rectangle of each layer, by columns and rows from its corner.
use Rattle.std.specs.Prelude.{[], ℕ, Bool, false, not, ◌&&◌, ◌||◌, List, ◌∷◌, length, take, Option, Some}
use Rattle.std.specs.Prelude.{None, slice_index_or, ◌+◌, ◌-◌, ◌/◌, ◌==◌, nat_le, nat_lt, if◌then◌else◌}
use Rattle.std.specs.Prelude.{codes}
use Rattle.tv_cells.specs.Glyph.{Glyph, glyph, shown}
use Rattle.tv_palette.specs.Attributes.{attribute_of}
use Rattle.tv_palette.specs.declared.role.Owner.{Owner}
use Rattle.tv_palette.specs.declared.role.Role.{Role}
use Rattle.tv_palette.specs.declared.role.Role.TheVariants as roles
use Rattle.tv_palette.specs.declared.role.FrameRole.{FrameRole}
use Rattle.tv_palette.specs.declared.role.FrameRole.TheVariants as frame
use Rattle.tv_palette.specs.declared.role.ButtonRole.{ButtonRole}
use Rattle.tv_palette.specs.declared.role.ButtonRole.TheVariants as button

-- a cell for each column and row
abbrev pub FaceOf : Type 0
FaceOf = ℕ → ℕ → Glyph

-- ---- rows of characters

-- a row: its character in each column
abbrev pub Row : Type 0
Row = ℕ → ℕ

-- a text from the first column on, and then spaces
abbrev pub text_row : List ℕ → Row
text_row text x = slice_index_or text x 32

-- so many columns of a row over another row, from a column on
abbrev pub over_row : ℕ → ℕ → Row → Row → Row
over_row from count row below x = if nat_le from x && nat_lt x (from + count) then row (x - from) else below x

-- ---- the desktop

-- the desktop where nothing stands on it
abbrev pub background : FaceOf
background x y = shown 46 (attribute_of roles.Background)

-- ---- frames

-- how a frame stands: its number, or 0 for none, and the attributes of its edge and of what it surrounds
pub record FrameLook : Type 0 where
  pub number : ℕ
  pub is_active : Bool
  pub edge : ℕ
  pub inside : ℕ

-- the role of a frame by whether it is active
abbrev pub frame_role : Bool → FrameRole
frame_role is_active = if is_active then frame.Active else frame.Passive

-- the frame of a window or a dialog, in the colours of its roles
abbrev pub frame_look : (Role → ℕ) → Owner → ℕ → Bool → FrameLook
frame_look colour owner number is_active = record {
  number = number;
  is_active = is_active;
  edge = colour (roles.Frame owner (frame_role is_active));
  inside = colour (roles.Frame owner frame.Body);
}

-- the first and the last column
abbrev pub is_side : ℕ → ℕ → Bool
is_side w x = (x == 0) || (x + 1 == w)

-- a corner at both ends, and between them `=` if the frame is active, else `-`
abbrev pub border : Bool → ℕ → Row
border is_active w x = if is_side w x then 43 else if is_active then 61 else 45

-- the title, cut so that the close mark and the number stay free, with a space at both sides; nothing for an
-- empty one
abbrev pub cut_title : ℕ → List ℕ → List ℕ
cut_title w title = take (w - 12) title

-- the title in the middle of the row below
abbrev pub titled : ℕ → List ℕ → Row → Row
titled w [] below = below
titled w (ch ∷ chars) below =
    over_row ((w - (length (ch ∷ chars) + 2)) / 2) (length (ch ∷ chars) + 2) (text_row (32 ∷ ch ∷ chars))
    below

-- the digit of a number in the fourth column from the end
abbrev pub with_number : ℕ → ℕ → Row → Row
with_number w number below x = if not (number == 0) && (x + 4 == w) then 48 + number else below x

-- the close mark of an active frame in the columns 2 to 4
abbrev pub with_close_mark : Bool → Row → Row
with_close_mark is_active below = if is_active then over_row 2 3 (text_row (codes "[x]")) below else below

-- the first row: corners, title, number and close mark
abbrev pub top_row : ℕ → List ℕ → FrameLook → Row
top_row w title look =
    with_close_mark look.is_active
    (with_number w look.number (titled w (cut_title w title) (border look.is_active w)))

-- a frame round an empty interior
abbrev pub frame_face : ℕ → ℕ → List ℕ → FrameLook → FaceOf
frame_face w h title look x y =
    if y == 0 then shown (top_row w title look x) look.edge
    else if y + 1 == h then shown (border look.is_active w x) look.edge
    else if is_side w x then shown 124 look.edge
    else glyph 32 look.inside

-- ---- static texts

-- the character that ends a line
abbrev pub is_line_end : ℕ → Bool
is_line_end ch = ch == 10

-- the pieces of a text between its line ends
abbrev pub onto_first_piece : ℕ → List (List ℕ) → List (List ℕ)
onto_first_piece ch [] = (ch ∷ []) ∷ []
onto_first_piece ch (piece ∷ pieces) = (ch ∷ piece) ∷ pieces

-- the pieces, at least one
abbrev pub pieces_of : List ℕ → List (List ℕ)
pieces_of [] = [] ∷ []
pieces_of (ch ∷ chars) =
    if is_line_end ch then [] ∷ pieces_of chars else onto_first_piece ch (pieces_of chars)

-- a piece a row
abbrev pub text_face : List ℕ → ℕ → FaceOf
text_face text attr x y = shown (text_row (slice_index_or (pieces_of text) y []) x) attr

-- in a window or a dialog
abbrev pub static_text_face : Owner → List ℕ → FaceOf
static_text_face owner text = text_face text (attribute_of (roles.StaticText owner))

-- ---- buttons

-- how a button stands: whether it has the focus, is the default now, and is disabled
pub record ButtonLook : Type 0 where
  pub is_focused : Bool
  pub is_default_now : Bool
  pub is_disabled : Bool

-- the text, cut to the width between the brackets, in the middle
abbrev pub button_text : ℕ → List ℕ → List ℕ
button_text w text = take (w - 2) text

-- the column in which the text starts
abbrev pub button_start : ℕ → List ℕ → ℕ
button_start w text = 1 + (w - 2 - length (button_text w text)) / 2

-- the characters of a button
abbrev pub button_row : ℕ → List ℕ → Bool → Row
button_row w text is_default_now x =
    if x == 0 then (if is_default_now then 60 else 91)
    else if x + 1 == w then (if is_default_now then 62 else 93)
    else over_row (button_start w text) (length (button_text w text)) (text_row (button_text w text)) (λ _.
    32) x

-- whether the column shows the marked letter
abbrev pub is_letter_column : ℕ → List ℕ → Option ℕ → ℕ → Bool
is_letter_column w text None x = false
is_letter_column w text (Some mark) x =
    nat_lt mark (length (button_text w text)) && (x == button_start w text + mark)

-- the role of a cell: that of a disabled button before all others
abbrev pub button_role : ButtonLook → Bool → ButtonRole
button_role look letter =
    if look.is_disabled then button.Disabled
    else if letter then button.Letter
    else if look.is_focused then button.Focused
    else if look.is_default_now then button.Default
    else button.Normal

-- the attribute of that role
abbrev pub button_attr : ButtonLook → Bool → ℕ
button_attr look letter = attribute_of (roles.Button (button_role look letter))

-- one attribute for the marked letter, and one for the rest
abbrev pub button_cells : ℕ → List ℕ → Option ℕ → Bool → ℕ → ℕ → FaceOf
button_cells w text mark is_default_now letter rest x y =
    shown (button_row w text is_default_now x) (if is_letter_column w text mark x then letter else rest)
