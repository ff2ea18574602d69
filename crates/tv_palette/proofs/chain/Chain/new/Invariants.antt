use Rattle.std.proofs.Common.{◌≡◌, ◌<◌, ℕ, get_or}
use Rattle.tv_palette.proofs.chain.Chain.new.Given as goal

-- the numbers before this one stand for themselves
abbrev pub invariant-loop-index : goal.invariant-loop-index
invariant-loop-index l = (k : ℕ) → k < l.index → get_or l.attr-items k 0 ≡ k
