use Rattle.std.proofs.Common.{◌≡◌, ℕ, ◌||◌, nat_eq, take}
use Rattle.std.specs.HashSet as set
use Rattle.tv_names.specs.Marked.{is_marked_by}
use Rattle.tv_names.proofs.keys.add_marked.Given as goal

abbrev pub invariant-loop-view : goal.invariant-loop-view
invariant-loop-view l = (ch : ℕ) → set.contains nat_eq l.letters ch ≡ (set.contains nat_eq l.fn.letters ch || is_marked_by (take l.view-index l.views) ch)
