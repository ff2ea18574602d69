use Rattle.std.proofs.Common.{◌≡◌, ◌<◌, ℕ, false, ◌&&◌, drop, slice_index_or}
use Rattle.tv_dialog.specs.Plan.{passes_all}
use Rattle.tv_dialog.proofs.ruled.disable_blocked.Given as goal

-- what is left of the set, and the gates that are left
abbrev pub invariant-loop-gate : goal.invariant-loop-gate
invariant-loop-gate l = (number : ℕ) → number < 256
    → (slice_index_or l.commands number false && passes_all l.marks number (drop l.gate-index l.gates))
    ≡ (slice_index_or l.initial.commands number false && passes_all l.marks number l.gates)
