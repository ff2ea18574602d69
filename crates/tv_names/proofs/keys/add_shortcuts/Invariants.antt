use Rattle.std.proofs.Common.{◌≡◌, ℕ, ◌||◌, nat_eq, take}
use Rattle.std.specs.HashSet as set
use Rattle.std.specs.List.{list_any}
use Rattle.tv_model.specs.Description.Letters.{is_shortcut}
use Rattle.tv_names.proofs.keys.add_shortcuts.Given as goal

abbrev pub invariant-loop-dialog : goal.invariant-loop-dialog
invariant-loop-dialog l = (ch : ℕ) → set.contains nat_eq l.taken ch ≡ (set.contains nat_eq l.fn.taken ch || list_any (is_shortcut ch) (take l.dialog-index l.dialogs))
