-- The names of pictures.
use Rattle.std.specs.Prelude.{ℕ, ◌+◌, List, [], ◌∷◌, ◌++◌, codes, decimal}
use Rattle.tv_program.specs.Albums.{NamedPicture, drawn_as}

-- the picture with a number, of those of a script with this name
abbrev pub shot_name : (script : List ℕ) → (number : ℕ) → List ℕ
shot_name script number = script ++ codes "-" ++ decimal number ++ codes ".svg"

-- pictures, each with its name, counted from a number on
abbrev pub named_from : (script : List ℕ) → (number : ℕ) → List (List ℕ) → List NamedPicture
named_from script number [] = []
named_from script number (text ∷ texts) =
    drawn_as (shot_name script number) text ∷ named_from script (number + 1) texts
