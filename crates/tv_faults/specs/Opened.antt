-- Commands that open dialogs.
use Rattle.std.specs.Prelude.{Bool, false, not, ◌||◌, Option, Some, None, ℤ, pos}
use Rattle.tv_model.specs.Description.Numbers.{is_between}

-- a command outside 100 to 255, or one that passes the test
abbrev pub is_bad_opening : (ℤ → Bool) → Option ℤ → Bool
is_bad_opening test None = false
is_bad_opening test (Some n) = not (is_between (pos 100) (pos 255) n) || test n
