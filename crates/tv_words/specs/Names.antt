-- Names: a letter `a` to `z`, then up to 19 of `a` to `z`, `0` to `9` and `-`.
use Rattle.std.specs.Prelude.{ℕ, List, [], ◌∷◌, length, Bool, false, ◌&&◌, ◌||◌, nat_lt, ◌==◌}
use Rattle.std.specs.List.{list_all}
use Rattle.std.specs.Char.{is_ascii_lowercase, is_ascii_digit}

-- what may follow the first letter
abbrev pub is_name_char : ℕ → Bool
is_name_char c = is_ascii_lowercase c || (is_ascii_digit c || c == 45)

-- a name
abbrev pub is_name : List ℕ → Bool
is_name [] = false
is_name (c ∷ cs) = is_ascii_lowercase c && (nat_lt (length cs) 20 && list_all is_name_char cs)
