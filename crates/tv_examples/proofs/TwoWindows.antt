-- Two windows, one over the other.
use Rattle.std.specs.Prelude.{[], ◌∷◌}
use Rattle.std.proofs.Common.{refl}
use Rattle.tv_examples.specs.Descriptions.{windows}
use Rattle.tv_examples.specs.Running.{written, Writes}

two_windows : Writes windows ("shot" ∷ []) (
    "shot 24 10" ∷
    ":                        :" ∷
    ":.+---- One --1--+.......:" ∷
    ":.|abcdefghi     |.......:" ∷
    ":.|      +=[x]== Two ====:" ∷
    ":.+------|second         :" ∷
    ":........|               :" ∷
    ":........+===============:" ∷
    ":........................:" ∷
    ":........................:" ∷
    ":                        :" ∷ [])
unfolding written
two_windows = refl

-- the close mark of the front window closes it
front_closes : Writes windows ("down 11 3" ∷ []) ("close two" ∷ [])
unfolding written
front_closes = refl

-- a down on another window only brings it to the front
other_comes_first : Writes windows ("down 3 1" ∷ "down 3 1" ∷ []) ("close one" ∷ [])
unfolding written
other_comes_first = refl
