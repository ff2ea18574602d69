use Rattle.std.proofs.Common.{take}
use Rattle.std.specs.Prelude.{All}
use Rattle.tv_reach.specs.Shown.{IsPart}
use Rattle.tv_reach.proofs.case.is_in_none.Given as goal

-- none of those so far has them
abbrev pub invariant-loop-mask : goal.invariant-loop-mask
invariant-loop-mask l = All (λ mask. IsPart l.rules mask → ⊥) (take l.mask-index l.masks)
