-- How the code's faces name what the definitions of faces speak of.
use Rattle.std.specs.Prelude.{◌≡◌, ℕ, List, [], ◌∷◌, Option, Some, None, map, pos, ◌+ℤ◌}
use Rattle.tv_cells.specs.Glyph.{Glyph, shown, shown_char}
use Rattle.tv_cells.specs.declared.canvas.Canvas.{Canvas}
use Rattle.tv_faces.specs.declared.frame.Frame.{Frame}
use Rattle.tv_faces.specs.declared.look.ButtonLook.{ButtonLook as SeenButton}
use Rattle.tv_faces.specs.declared.look.FrameLook.{FrameLook as SeenFrame}
use Rattle.tv_model.specs.Screen.Faces.{ButtonLook, FrameLook, pieces_of, top_row}

-- how a button stands
abbrev pub button_look_of : SeenButton → ButtonLook
button_look_of look = record {
  is_focused = look.is_focused;
  is_default_now = look.is_default_now;
  is_disabled = look.is_disabled;
}

-- how a frame stands
abbrev pub frame_look_of : SeenFrame → FrameLook
frame_look_of look = record {
  number = look.number;
  is_active = look.is_active;
  edge = look.edge;
  inside = look.inside;
}

-- the first row of a frame
abbrev pub top_row_of : Frame → ℕ → Glyph
top_row_of f x = shown (top_row f.width f.title.now (frame_look_of f.look) x) f.look.edge

-- the pieces of what is left of a text, if anything is
abbrev pub pieces_left : Option (List ℕ) → List (List ℕ)
pieces_left None = []
pieces_left (Some text) = pieces_of text

-- the first piece of a text, and what follows its line end
abbrev pub Splits : List ℕ → List ℕ → Option (List ℕ) → Type 0
Splits text first left = pieces_of text ≡ first ∷ pieces_left left

-- the pieces of a text as a screen shows them
abbrev pub shown_pieces : List ℕ → List (List ℕ)
shown_pieces text = map (map shown_char) (pieces_of text)

-- the canvas with its origin so many rows below
abbrev pub canvas_below : Canvas → ℕ → Canvas
canvas_below c row = record { clip = c.clip; origin = record { x = c.origin.x; y = c.origin.y +ℤ pos row } }
