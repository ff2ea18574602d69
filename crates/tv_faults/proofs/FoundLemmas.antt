-- A list that is found part by part.
use Rattle.std.proofs.Common.{◌≡◌, ℕ, ◌+◌, ◌<◌, List, ◌∷◌, ◌++◌, length, get_or, drop, flat_map, sym, ap, ◌∙◌, append_assoc, add-one, drop-cons}

-- the next part is found
pub more_found : {K A : Type 0} (f : K → List A) (kinds : List K) (i : ℕ) (d : K) (found now all : List A) → i < length kinds
    → found ++ flat_map f (drop i kinds) ≡ all → now ≡ found ++ f (get_or kinds i d) → now ++ flat_map f (drop (i + 1) kinds) ≡ all
more_found f kinds i d found now all less same is =
    let first : drop i kinds ≡ get_or kinds i d ∷ drop (i + 1) kinds = rw add-one (drop-cons kinds i d less) in
    ap (λ part. part ++ flat_map f (drop (i + 1) kinds)) is
    ∙ append_assoc found (f (get_or kinds i d)) (flat_map f (drop (i + 1) kinds))
    ∙ ap (λ left. found ++ flat_map f left) (sym first)
    ∙ same
