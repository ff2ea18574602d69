use Rattle.std.proofs.Common.{take}
use Rattle.std.specs.Prelude.{All}
use Rattle.tv_machine.specs.Leaves.{PlacedNode}
use Rattle.tv_reach.specs.Found.{IsLeafOf}
use Rattle.tv_reach.specs.Never.{GivesEnd}
use Rattle.tv_reach.proofs.giving.is_without_giver.Given as goal

-- none so far gives it
abbrev pub invariant-loop-leaf : goal.invariant-loop-leaf
invariant-loop-leaf l =
    All (λ shown. (leaf : PlacedNode) → IsLeafOf l.givers.case.now leaf shown → GivesEnd l.givers.number leaf → ⊥)
    (take l.leaf-index l.givers.case.now.leaves.now)
