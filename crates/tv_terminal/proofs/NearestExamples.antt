-- Of the fixed colours those that stand for the sixteen are the nearest, computed.
use Rattle.std.proofs.Common.{◌≡◌, ℕ, ◌+◌, ◌-◌, ◌*◌, ◌/◌, ◌%◌, Bool, true, List, ◌==◌, if◌then◌else◌, nat_le, nat_lt, refl, slice_index}
use Rattle.std.specs.List.{list_all, range_with_len}
use Rattle.tv_terminal.specs.Svg.{colour_text}
use Rattle.tv_terminal.specs.Written.{fixed_indices}

-- red, green and blue, from 0 to 255
record Shade : Type 0 where
  red : ℕ
  green : ℕ
  blue : ℕ

-- ---- the sixteen, as pictures write them

abbrev hex : ℕ → ℕ
hex c = if nat_lt c 58 then c - 48 else c - 87

abbrev part : List ℕ → ℕ → ℕ
part text at = hex (slice_index text at) * 16 + hex (slice_index text (at + 1))

abbrev shade : ℕ → Shade
shade n = record { red = part (colour_text n) 1; green = part (colour_text n) 3; blue = part (colour_text n) 5 }

-- ---- the fixed ones

-- 0, 95, 135, 175, 215 and 255
abbrev level : ℕ → ℕ
level k = if k == 0 then 0 else 55 + 40 * k

abbrev of_cube : ℕ → Shade
of_cube k = record { red = level (k / 36); green = level (k / 6 % 6); blue = level (k % 6) }

abbrev of_greys : ℕ → Shade
of_greys k = record { red = 8 + 10 * k; green = 8 + 10 * k; blue = 8 + 10 * k }

abbrev fixed_shade : ℕ → Shade
fixed_shade index = if nat_lt index 232 then of_cube (index - 16) else of_greys (index - 232)

-- ---- how far apart they are

abbrev square : ℕ → ℕ
square n = n * n

abbrev gap : ℕ → ℕ → ℕ
gap m n = square ((m - n) + (n - m))

abbrev distance : Shade → Shade → ℕ
distance a b = gap a.red b.red + gap a.green b.green + gap a.blue b.blue

abbrev is_nearest : ℕ → Bool
is_nearest n = list_all (λ index. nat_le (distance (shade n) (fixed_shade (slice_index fixed_indices n))) (distance (shade n) (fixed_shade index))) (range_with_len 16 240)

all_nearest : list_all is_nearest (range_with_len 0 16) ≡ true
all_nearest = refl
