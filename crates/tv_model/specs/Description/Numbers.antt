-- Numbers as descriptions have them.
use Rattle.std.specs.Prelude.{ℕ, Bool, ℤ, pos, negsuc, ◌&&◌, int_le, ◌≤ℤ◌}

-- the number, or 0 below it
abbrev pub natural : ℤ → ℕ
natural (pos n) = n
natural (negsuc n) = 0

-- the number lies from the least to the greatest
abbrev pub IsBetween : ℤ → ℤ → ℤ → Type 0
IsBetween least greatest n = (least ≤ℤ n) × (n ≤ℤ greatest)

-- the same as a test
abbrev pub is_between : ℤ → ℤ → ℤ → Bool
is_between least greatest n = int_le least n && int_le n greatest
