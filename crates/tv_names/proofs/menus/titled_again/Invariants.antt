use Rattle.std.proofs.Common.{◌≡◌, ℕ, nat_eq, take}
use Rattle.std.specs.HashSet as set
use Rattle.std.specs.List.{list_any}
use Rattle.tv_model.specs.Description.Marks.{marks}
use Rattle.tv_model.specs.Faults.Letters.{titled_again}
use Rattle.tv_model.specs.Faults.Each.{each_after}
use Rattle.tv_names.proofs.menus.titled_again.Given as goal

abbrev pub invariant-loop-menu : goal.invariant-loop-menu
invariant-loop-menu l = record {
  judged : l.again.items ≡ each_after titled_again (take l.menu-index l.menus);
  given : (letter : ℕ) → set.contains nat_eq l.letters letter ≡ list_any (λ menu. marks letter menu.title) (take l.menu-index l.menus);
}
