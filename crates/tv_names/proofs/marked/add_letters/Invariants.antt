use Rattle.std.proofs.Common.{◌≡◌, ℕ, ◌||◌, nat_eq, take}
use Rattle.std.specs.HashSet as set
use Rattle.tv_names.specs.Marked.{is_marked_in, mark_again}
use Rattle.tv_names.proofs.marked.add_letters.Given as goal

abbrev pub invariant-loop-text : goal.invariant-loop-text
invariant-loop-text l = record {
  again : l.again ≡ mark_again (set.contains nat_eq l.shared) (set.contains nat_eq l.fn.letters) (take l.text-index l.texts);
  added : (letter : ℕ) → set.contains nat_eq l.letters letter ≡ (set.contains nat_eq l.fn.letters letter || is_marked_in (take l.text-index l.texts) letter);
}
