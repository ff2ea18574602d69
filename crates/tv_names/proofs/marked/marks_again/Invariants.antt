use Rattle.std.proofs.Common.{◌≡◌, ℕ, nat_eq, take}
use Rattle.std.specs.HashSet as set
use Rattle.std.specs.Prelude.{option_copied}
use Rattle.tv_model.specs.Description.Sharing.{is_shared_by}
use Rattle.tv_model.specs.Faults.Letters.{marks_again}
use Rattle.tv_model.specs.Faults.Each.{each_after}
use Rattle.tv_names.specs.Marked.{is_marked_by}
use Rattle.tv_names.proofs.marked.marks_again.Given as goal

abbrev pub invariant-loop-view : goal.invariant-loop-view
invariant-loop-view l = record {
  judged : l.again.items ≡ each_after (marks_again (is_shared_by (option_copied l.sharing) l.views)) (take l.view-index l.views);
  given : (letter : ℕ) → set.contains nat_eq l.letters letter ≡ is_marked_by (take l.view-index l.views) letter;
}
