use Rattle.std.proofs.Common.{take}
use Rattle.std.specs.Prelude.{All}
use Rattle.tv_reach.specs.Never.{MayGive}
use Rattle.tv_reach.proofs.giving.is_never_given.Given as goal

-- by none of those so far it may be given
abbrev pub invariant-loop-mask : goal.invariant-loop-mask
invariant-loop-mask l =
    All (λ mask. MayGive l.givers.case.now.desc.now l.givers.case.now.dialog.now l.givers.number mask → ⊥) (take l.mask-index l.givers.case.now.masks.now)
