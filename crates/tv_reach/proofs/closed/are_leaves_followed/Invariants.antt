use Rattle.std.proofs.Common.{take}
use Rattle.std.specs.Prelude.{All}
use Rattle.tv_reach.specs.Shown.{IsLeafFollowed}
use Rattle.tv_reach.proofs.closed.are_leaves_followed.Given as goal

abbrev pub invariant-loop-leaf : goal.invariant-loop-leaf
invariant-loop-leaf l = All (IsLeafFollowed l.names l.rules l.masks) (take l.leaf-index l.leaves)
