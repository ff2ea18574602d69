-- The cells of a label.
use Rattle.std.specs.Prelude.{ℕ, Bool, false, List, Option, Some, None, ◌==◌, if◌then◌else◌}
use Rattle.tv_cells.specs.Glyph.{shown}
use Rattle.tv_model.specs.Screen.Faces.{FaceOf, text_row}

-- whether the column shows the marked letter of a text that begins in the first one
abbrev pub is_mark : Option ℕ → ℕ → Bool
is_mark None x = false
is_mark (Some place) x = x == place

-- the text from the first column on, in one attribute for the marked letter and one for the rest
abbrev pub label_cells : List ℕ → Option ℕ → (letter rest : ℕ) → FaceOf
label_cells text mark letter rest x y = shown (text_row text x) (if is_mark mark x then letter else rest)
