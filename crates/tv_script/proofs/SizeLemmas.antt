-- What a callee says of the columns and rows that it was passed.
use Rattle.std.proofs.Common.{ℤ, FitsSigned, to_z, of_z, w32, subst}
use Rattle.std.proofs.lemmas.Int.{to_z-of_z}

pub passed : (P : ℤ → ℤ → Type 0) (width height : ℤ) → FitsSigned w32 width → FitsSigned w32 height → P (to_z w32 (of_z w32 width)) (to_z w32 (of_z w32 height)) → P width height
passed P width height across down said =
    subst (λ x. P x height) (to_z-of_z w32 width across) (subst (P (to_z w32 (of_z w32 width))) (to_z-of_z w32 height down) said)
