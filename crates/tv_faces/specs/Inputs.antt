-- The cells of an input line, and their attributes.
use Rattle.std.specs.Prelude.{ℕ, Bool, false, List, length, nat_lt, ◌&&◌, if◌then◌else◌}
use Rattle.tv_cells.specs.Glyph.{Glyph, shown}
use Rattle.tv_palette.specs.Palettes.{colour_in}
use Rattle.tv_palette.specs.declared.role.InputRole.{InputRole}
use Rattle.tv_palette.specs.declared.role.InputRole.TheVariants as input
use Rattle.tv_palette.specs.declared.role.Role.TheVariants as roles
use Rattle.tv_model.specs.Kinds.InputLine.{Edit, input_cell}
use Rattle.tv_model.specs.Screen.Faces.{FaceOf, text_row}
use Rattle.tv_faces.specs.declared.input.InputColours.{InputColours}

-- the attributes to which a chain leads
abbrev pub colours_of : List (List ℕ) → InputColours
colours_of chain = record {
  normal = colour_in chain (roles.Input input.Normal);
  selected = colour_in chain (roles.Input input.SelectedText);
  arrow = colour_in chain (roles.Input input.Arrow);
  cursor = colour_in chain (roles.Input input.Cursor);
}

-- the attribute of a role
abbrev pub input_attr : InputColours → InputRole → ℕ
input_attr colours input.Normal = colours.normal
input_attr colours input.SelectedText = colours.selected
input_attr colours input.Arrow = colours.arrow
input_attr colours input.Cursor = colours.cursor

-- what is shown of an edit
abbrev pub seen_edit : List ℕ → ℕ → Bool → Edit
seen_edit text cursor is_whole = record {
  text = text;
  cursor = cursor;
  is_whole = is_whole;
  overwrites = false;
}

-- a place of the text or after it, as it is where the cursor isn't
abbrev pub place_cell : InputColours → Bool → Edit → ℕ → Glyph
place_cell colours is_focused e place =
    shown (text_row e.text place)
    (if is_focused && (e.is_whole && nat_lt place (length e.text)) then colours.selected
    else colours.normal)

-- the text round the cursor
abbrev pub input_cells : InputColours → ℕ → Bool → Edit → FaceOf
input_cells colours width is_focused e x y =
    shown (input_cell width is_focused e x).ch (input_attr colours (input_cell width is_focused e x).role)
