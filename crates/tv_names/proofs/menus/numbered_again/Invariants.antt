use Rattle.std.proofs.Common.{◌≡◌, ℤ, take}
use Rattle.std.specs.HashSet as set
use Rattle.std.specs.List.{list_any}
use Rattle.std.specs.Ordering.{int_eq}
use Rattle.tv_model.specs.Description.Heads.{window_head}
use Rattle.tv_model.specs.Faults.Letters.{numbered_again}
use Rattle.tv_model.specs.Faults.Each.{each_after}
use Rattle.tv_names.proofs.menus.numbered_again.Given as goal

abbrev pub invariant-loop-window : goal.invariant-loop-window
invariant-loop-window l = record {
  judged : l.again.items ≡ each_after numbered_again (take l.window-index l.windows);
  given : (n : ℤ) → set.contains int_eq l.numbers n ≡ list_any (λ window. int_eq (window_head window).number n) (take l.window-index l.windows);
}
