-- What a frame shows in its interior where a program has laid a sheet there: a picture of the program's own.
use Rattle.std.specs.Prelude.{ℕ, Bool, ◌&&◌, Option, Some, None, ◌+◌, ◌-◌, ◌==◌, nat_lt, if◌then◌else◌}
use Rattle.tv_cells.specs.Glyph.{Glyph}
use Rattle.tv_cells.specs.Picture.{Picture, cell_at}

-- a cell as a new picture has it, which the program hasn't painted
abbrev pub is_blank : Glyph → Bool
is_blank g = (g.ch == 32) && (g.attr == 0)

-- a place on a line inside its ends, that a sheet of a length has, which begins behind the first end
abbrev pub is_on_sheet : (length sheet place : ℕ) → Bool
is_on_sheet length sheet place = nat_lt 0 place && (nat_lt (place + 1) length && nat_lt place (sheet + 1))

-- the painted cell, or what is below an unpainted one
abbrev pub painted_over : Glyph → Glyph → Glyph
painted_over cell under = if is_blank cell then under else cell

-- a face of a size with a picture in its interior
abbrev pub laid_in : Picture → ℕ → ℕ → (ℕ → ℕ → Glyph) → ℕ → ℕ → Glyph
laid_in p width height face x y =
    if is_on_sheet width p.width x && is_on_sheet height p.height y
    then painted_over (cell_at p (x - 1) (y - 1)) (face x y)
    else face x y

-- the same with a sheet or none
abbrev pub inlaid : Option Picture → ℕ → ℕ → (ℕ → ℕ → Glyph) → ℕ → ℕ → Glyph
inlaid None width height face = face
inlaid (Some p) width height face = laid_in p width height face
