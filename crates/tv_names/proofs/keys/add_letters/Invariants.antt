use Rattle.std.proofs.Common.{◌≡◌, ℕ, ◌||◌, nat_eq, take}
use Rattle.std.specs.HashSet as set
use Rattle.tv_names.specs.Marked.{is_marked_in}
use Rattle.tv_names.proofs.keys.add_letters.Given as goal

abbrev pub invariant-loop-text : goal.invariant-loop-text
invariant-loop-text l = (ch : ℕ) → set.contains nat_eq l.letters ch ≡ (set.contains nat_eq l.fn.letters ch || is_marked_in (take l.text-index l.texts) ch)
