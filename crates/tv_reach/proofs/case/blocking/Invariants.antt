use Rattle.std.proofs.Common.{take}
use Rattle.std.specs.Prelude.{All}
use Rattle.tv_machine.specs.Leaves.{PlacedNode}
use Rattle.tv_reach.specs.Found.{IsLeafOf}
use Rattle.tv_reach.specs.Never.{Blocks}
use Rattle.tv_reach.proofs.case.blocking.Given as goal

-- none so far blocks
abbrev pub invariant-loop-leaf : goal.invariant-loop-leaf
invariant-loop-leaf l =
    All (λ shown. (leaf : PlacedNode) → IsLeafOf l.case leaf shown → Blocks l.case.dialog.now l.case.masks.now leaf.node.id leaf → ⊥)
    (take l.leaf-index l.case.leaves.now)
