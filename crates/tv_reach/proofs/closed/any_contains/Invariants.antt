use Rattle.std.proofs.Common.{take}
use Rattle.std.specs.Prelude.{All}
use Rattle.tv_reach.specs.Shown.{IsPart}
use Rattle.tv_reach.proofs.closed.any_contains.Given as goal

-- none so far has them all
abbrev pub invariant-loop-mask : goal.invariant-loop-mask
invariant-loop-mask l = All (λ mask. IsPart l.wanted mask → ⊥) (take l.mask-index l.masks)
