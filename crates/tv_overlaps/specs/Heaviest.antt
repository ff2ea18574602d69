-- Weights of placed views.
use Rattle.std.specs.Prelude.{ℕ, Bool, if◌then◌else◌}

-- a weight that counts
abbrev pub at_least : Bool → ℕ → ℕ
at_least counts weight = if counts then weight else 0
