-- Palettes, which are lists of entries, and chains of them from a view to the application.
use Rattle.std.specs.Prelude.{◌≡◌, ◌<◌, ℕ, Bool, true, false, List, [], ◌∷◌, filter, slice_index}
use Rattle.std.specs.Prelude.{slice_index_or}

-- the entry that a number counts to, from 1, and 0 where the palette lacks it; an empty palette passes the
-- number on
abbrev pub entry : List ℕ → ℕ → ℕ
entry [] index = index
entry (first ∷ rest) index = slice_index_or (0 ∷ first ∷ rest) index 0

-- along a chain: each owner's palette looks up what came of the one before
abbrev pub attr_of : List (List ℕ) → ℕ → ℕ
attr_of [] index = index
attr_of (palette ∷ owners) index = attr_of owners (entry palette index)

-- a table has, at each number that a byte holds, what becomes of it along the chain
abbrev pub IsLookUp : List (List ℕ) → List ℕ → Type 0
IsLookUp chain attrs = (index : ℕ) → index < 256 → slice_index attrs index ≡ attr_of chain index

-- the chain without its empty palettes
abbrev pub has_entries : List ℕ → Bool
has_entries [] = false
has_entries (first ∷ rest) = true

abbrev pub coloured : List (List ℕ) → List (List ℕ)
coloured chain = filter has_entries chain
