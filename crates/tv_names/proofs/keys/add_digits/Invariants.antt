use Rattle.std.proofs.Common.{◌≡◌, ℕ, ◌||◌, nat_eq, take}
use Rattle.std.specs.HashSet as set
use Rattle.std.specs.List.{list_any}
use Rattle.tv_model.specs.Faults.Letters.{is_window_digit}
use Rattle.tv_names.proofs.keys.add_digits.Given as goal

abbrev pub invariant-loop-window : goal.invariant-loop-window
invariant-loop-window l = (ch : ℕ) → set.contains nat_eq l.taken ch ≡ (set.contains nat_eq l.fn.taken ch || list_any (is_window_digit ch) (take l.window-index l.windows))
