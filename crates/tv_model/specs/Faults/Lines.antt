-- Lines of declarations, each judged after those before it.
use Rattle.std.specs.Prelude.{[], ℕ, Bool, List, ◌∷◌, ◌++◌, map, filter, if◌then◌else◌}

-- each item after some that were seen, with all those before it
abbrev pub after_seen : {A : Type 0} → List A → List A → List (List A × A)
after_seen seen [] = []
after_seen seen (x ∷ xs) = (seen, x) ∷ after_seen (seen ++ x ∷ []) xs

-- the lines of the items that stand so to those before them, where some were seen already
abbrev pub lines_where : {A : Type 0} → (A → ℕ) → (List A → A → Bool) → List A → List A → List ℕ
lines_where line p seen items =
    map (λ pair. line pair.1) (filter (λ pair. p pair.0 pair.1) (after_seen seen items))

-- the line where something holds of it, else none
abbrev pub line_if : Bool → ℕ → List ℕ
line_if b line = if b then line ∷ [] else []
