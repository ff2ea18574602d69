-- What palettes hold.
use Rattle.std.specs.Prelude.{ℕ, List, map}
use Rattle.tv_palette.specs.declared.palette.Palette.{Palette}

-- the entries of each
abbrev pub entries_of : List Palette → List (List ℕ)
entries_of palettes = map (λ p. p.entries.now) palettes
