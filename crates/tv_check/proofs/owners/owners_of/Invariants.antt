use Rattle.std.proofs.Common.{take}
use Rattle.tv_check.specs.Owners.{AreOwnersOf}
use Rattle.tv_check.proofs.owners.owners_of.Given as goal

abbrev pub invariant-loop-view : goal.invariant-loop-view
invariant-loop-view l = AreOwnersOf (take l.view-index l.views) l.owners
