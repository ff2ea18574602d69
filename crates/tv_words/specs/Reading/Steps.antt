-- A machine that may have no step.
use Rattle.std.specs.Prelude.{List, [], ◌∷◌, Option, Some, option_and_then}

-- the state after all inputs, or none where one has no step
abbrev pub steps : {S E : Type 0} → (S → E → Option S) → S → List E → Option S
steps next s [] = Some s
steps next s (e ∷ es) = option_and_then (λ t. steps next t es) (next s e)
