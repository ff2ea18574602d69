-- How a leaf stands on the screen.
use Rattle.std.specs.Prelude.{ℕ, Bool, false, Option, Some, None, ◌+◌, ◌==◌}

-- how a leaf stands: whether it has the focus, is the default now, is disabled, and is a label whose link has
-- the focus
pub record Look : Type 0 where
  pub is_focused : Bool
  pub is_default_now : Bool
  pub is_disabled : Bool
  pub is_linked : Bool

-- whether the column shows the marked letter of a text that begins in the first of these columns
abbrev pub is_mark_from : ℕ → Option ℕ → ℕ → Bool
is_mark_from first None x = false
is_mark_from first (Some place) x = x == first + place
