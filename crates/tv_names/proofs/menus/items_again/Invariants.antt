use Rattle.std.proofs.Common.{◌≡◌, ℕ, nat_eq, take}
use Rattle.std.specs.HashSet as set
use Rattle.std.specs.List.{list_any}
use Rattle.tv_model.specs.Faults.Letters.{item_again}
use Rattle.tv_model.specs.Description.Marks.{marks}
use Rattle.tv_model.specs.Faults.Each.{each_after}
use Rattle.tv_names.proofs.menus.items_again.Given as goal

abbrev pub invariant-loop-item : goal.invariant-loop-item
invariant-loop-item l = record {
  judged : l.again.items ≡ each_after item_again (take l.item-index l.items);
  given : (letter : ℕ) → set.contains nat_eq l.letters letter ≡ list_any (λ item. marks letter item.text) (take l.item-index l.items);
}
