use Rattle.std.proofs.Common.{take}
use Rattle.std.specs.Prelude.{All, Any}
use Rattle.tv_reach.specs.Shown.{IsMoved, IsPart}
use Rattle.tv_reach.proofs.closed.leads.Given as goal

abbrev pub invariant-loop-mask : goal.invariant-loop-mask
invariant-loop-mask l = All (λ mask. IsPart l.leaf.shown_by mask → Any (IsMoved l.own l.choice mask) l.masks) (take l.mask-index l.masks)
