-- What is drawn of a picture: an SVG file, in which a cell is 10 wide and 20 high.
use Rattle.std.specs.Prelude.{ℕ, ◌+◌, ◌*◌, ◌/◌, ◌%◌, Bool, ◌==◌, ◌||◌, not, if◌then◌else◌, List, [], ◌∷◌}
use Rattle.std.specs.Prelude.{◌++◌, length}
use Rattle.std.specs.Prelude.{codes, decimal, encode_utf8, flat_map, slice_index_or}
use Rattle.std.specs.List.{list_any, range_with_len}
use Rattle.tv_cells.specs.Glyph.{Glyph}
use Rattle.tv_cells.specs.Picture.{Picture, cell_at}
use Rattle.tv_terminal.specs.Strips.{Strip, cells_from, strips_of}
use Rattle.tv_terminal.specs.declared.element.Extent.{Extent}

-- ---- colours

-- the low four bits of an attribute are its foreground, the others its background: black, blue, green, cyan,
-- red, magenta, brown and grey, and then the bright ones
abbrev pub colours : List (List ℕ)
colours =
    codes "#000000" ∷ codes "#0000aa" ∷ codes "#00aa00" ∷ codes "#00aaaa" ∷ codes "#aa0000"
    ∷ codes "#aa00aa" ∷ codes "#aa5500" ∷ codes "#aaaaaa" ∷ codes "#555555" ∷ codes "#5555ff"
    ∷ codes "#55ff55" ∷ codes "#55ffff" ∷ codes "#ff5555" ∷ codes "#ff55ff" ∷ codes "#ffff55"
    ∷ codes "#ffffff" ∷ []

abbrev pub colour_text : ℕ → List ℕ
colour_text colour = slice_index_or colours colour []

-- ---- elements

abbrev pub attribute_text : List ℕ → ℕ → List ℕ
attribute_text name value = codes " " ++ name ++ codes "=\"" ++ decimal value ++ codes "\""

abbrev pub fill_text : ℕ → List ℕ
fill_text colour = codes " fill=\"" ++ colour_text colour ++ codes "\""

-- a rectangle
abbrev pub rect_element : Extent → ℕ → List ℕ
rect_element e colour =
    codes "<rect" ++ attribute_text (codes "x") e.x ++ attribute_text (codes "y") e.y
    ++ attribute_text (codes "width") e.width ++ attribute_text (codes "height") e.height
    ++ fill_text colour ++ codes "/>\n"

-- a character of a text; two have no place in XML
abbrev pub char_text : ℕ → List ℕ
char_text ch =
    if ch == 38 then codes "&amp;"
    else if ch == 60 then codes "&lt;"
    else if ch == 62 then codes "&gt;"
    else if ch == 34 then codes "&quot;"
    else if (ch == 65534) || (ch == 65535) then encode_utf8 65533
    else encode_utf8 ch

-- a text as wide as its cells, of which the line of letters is 15 below the top
abbrev pub text_element : (column row : ℕ) → Strip → List ℕ
text_element column row s =
    codes "<text" ++ attribute_text (codes "x") (10 * column) ++ attribute_text (codes "y") (20 * row + 15)
    ++ attribute_text (codes "textLength") (10 * length s.chars) ++ fill_text (s.attr % 16)
    ++ codes " lengthAdjust=\"spacingAndGlyphs\">" ++ flat_map char_text s.chars ++ codes "</text>\n"

-- ---- strips

-- the background of some cells of an attribute
abbrev pub ground_element : (column row count attr : ℕ) → List ℕ
ground_element column row count attr =
    rect_element (record { x = 10 * column; y = 20 * row; width = 10 * count; height = 20 }) (attr / 16)

-- the bar of the cursor, under cells that have the attribute 4f: only the cell of an input's cursor has it
abbrev pub cursor_element : (column row count attr : ℕ) → List ℕ
cursor_element column row count attr =
    if attr == 79
    then rect_element (record { x = 10 * column; y = 20 * row + 17; width = 10 * count; height = 3 })
    (attr % 16)
    else []

-- one of the characters isn't a space
abbrev pub has_ink : List ℕ → Bool
has_ink chars = list_any (λ ch. not (ch == 32)) chars

abbrev pub strip_elements : (column row : ℕ) → Strip → List ℕ
strip_elements column row s =
    ground_element column row (length s.chars) s.attr
    ++ (if has_ink s.chars then text_element column row s else [])
    ++ cursor_element column row (length s.chars) s.attr

-- strips side by side
abbrev pub strips_elements : (column row : ℕ) → List Strip → List ℕ
strips_elements column row [] = []
strips_elements column row (s ∷ ss) =
    strip_elements column row s ++ strips_elements (column + length s.chars) row ss

abbrev pub row_elements : (width : ℕ) → (ℕ → ℕ → Glyph) → (row : ℕ) → List ℕ
row_elements width at row = strips_elements 0 row (strips_of (cells_from at row 0 width))

-- ---- the file

-- with a margin of 10 around the cells
abbrev pub size_text : (width height : ℕ) → List ℕ
size_text width height =
    attribute_text (codes "width") (10 * width + 20) ++ attribute_text (codes "height") (20 * height + 20)

abbrev pub head_text : (width height : ℕ) → List ℕ
head_text width height =
    codes "<svg xmlns=\"http://www.w3.org/2000/svg\" viewBox=\"-10 -10 " ++ decimal (10 * width + 20)
    ++ codes " " ++ decimal (20 * height + 20) ++ codes "\"" ++ size_text width height
    ++ codes "\n  font-family=\"'DejaVu Sans Mono', Menlo, Consolas, 'Liberation Mono', monospace\""
    ++ codes " font-size=\"16\"\n  xml:space=\"preserve\" shape-rendering=\"crispEdges\">\n"

abbrev pub margin_element : (width height : ℕ) → List ℕ
margin_element width height =
    codes "<rect x=\"-10\" y=\"-10\"" ++ size_text width height ++ codes " rx=\"6\" fill=\"#111111\"/>\n"

abbrev pub rows_elements : (width height : ℕ) → (ℕ → ℕ → Glyph) → List ℕ
rows_elements width height at = flat_map (row_elements width at) (range_with_len 0 height)

-- so many columns and rows, by the cell in each
abbrev pub svg_text : (width height : ℕ) → (ℕ → ℕ → Glyph) → List ℕ
svg_text width height at =
    head_text width height ++ margin_element width height ++ rows_elements width height at ++ codes "</svg>\n"

abbrev pub svg_of : Picture → List ℕ
svg_of p = svg_text p.width p.height (cell_at p)
