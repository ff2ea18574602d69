use Rattle.std.proofs.Common.{◌≡◌, ℕ, ◌||◌, nat_eq, take}
use Rattle.std.specs.HashSet as set
use Rattle.std.specs.List.{list_any}
use Rattle.tv_model.specs.Description.Marks.{marks}
use Rattle.tv_names.proofs.keys.add_titles.Given as goal

abbrev pub invariant-loop-menu : goal.invariant-loop-menu
invariant-loop-menu l = (ch : ℕ) → set.contains nat_eq l.taken ch ≡ (set.contains nat_eq l.fn.taken ch || list_any (λ menu. marks ch menu.title) (take l.menu-index l.menus))
