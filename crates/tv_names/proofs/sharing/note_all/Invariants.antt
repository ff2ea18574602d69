use Rattle.std.proofs.Common.{◌≡◌, ℕ, ◌||◌, nat_eq, take}
use Rattle.std.specs.HashSet as set
use Rattle.tv_names.specs.Marked.{is_marked_in}
use Rattle.tv_names.specs.Sharing.{AreSharedOf}
use Rattle.tv_names.proofs.sharing.note_all.Given as goal

abbrev pub invariant-loop-text : goal.invariant-loop-text
invariant-loop-text l = record {
  seen : (ch : ℕ) → set.contains nat_eq l.seen ch ≡ (set.contains nat_eq l.fn.seen ch || is_marked_in (take l.text-index l.texts) ch);
  shared : AreSharedOf l.sharing.views l.sharing.rules (set.contains nat_eq l.seen) l.shared;
}
