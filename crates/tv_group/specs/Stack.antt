-- Items one over the other, the front one first.
use Rattle.std.specs.Prelude.{ℕ, List, ◌++◌, take, drop, remove}

-- the item at a place comes to the front
abbrev pub raised_at : {X : Type 0} → List X → ℕ → List X
raised_at items place = take 1 (drop place items) ++ remove items place

-- it goes to the back
abbrev pub lowered : {X : Type 0} → List X → ℕ → List X
lowered items place = remove items place ++ take 1 (drop place items)
