use Rattle.std.proofs.Common.{◌≡◌, ℕ, nat_eq, take}
use Rattle.std.specs.HashSet as set
use Rattle.tv_names.specs.Marked.{is_marked_by}
use Rattle.tv_names.specs.Sharing.{AreSharedOf}
use Rattle.tv_names.proofs.sharing.letters.Given as goal

abbrev pub invariant-loop-view : goal.invariant-loop-view
invariant-loop-view l = record {
  seen : (ch : ℕ) → set.contains nat_eq l.seen ch ≡ is_marked_by (take l.view-index l.views) ch;
  shared : AreSharedOf l.views l.rules (set.contains nat_eq l.seen) l.shared;
}
