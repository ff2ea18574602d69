-- Keys of status items.
use Rattle.std.specs.Prelude.{ℕ, Bool, false}
use Rattle.tv_event.specs.declared.event.Key.{Key}
use Rattle.tv_event.specs.declared.event.Key.TheVariants as keys

-- Alt with a character that passes the test
abbrev pub is_alt_of : (ℕ → Bool) → Key → Bool
is_alt_of test (keys.Alt ch) = test ch
is_alt_of test _ = false
