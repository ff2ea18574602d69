use Rattle.std.proofs.Common.{◌≡◌, ◌<◌, ℕ, get_or}
use Rattle.tv_palette.specs.Chain.{attr_of, entry}
use Rattle.tv_palette.proofs.chain.Chain.extended.Given as goal

-- the numbers before this one have what the chain makes of the own palette's entry
abbrev pub invariant-loop-index : goal.invariant-loop-index
invariant-loop-index l = (k : ℕ) → k < l.index → get_or l.attr-items k 0 ≡ attr_of l.self (entry l.own.entries.now k)
