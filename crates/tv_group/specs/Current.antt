-- Which member is current.
use Rattle.std.specs.Prelude.{ℕ, Bool, false, ◌==◌, Option, Some, None}

abbrev pub is_at : Option ℕ → ℕ → Bool
is_at None i = false
is_at (Some k) i = k == i
