use Rattle.std.proofs.Common.{take}
use Rattle.std.specs.Prelude.{All}
use Rattle.tv_machine.specs.Leaves.{PlacedNode}
use Rattle.tv_reach.specs.Found.{IsLeafOf}
use Rattle.tv_reach.specs.Never.{MayPress}
use Rattle.tv_reach.proofs.giving.any_pressed.Given as goal

-- none so far may be pressed
abbrev pub invariant-loop-leaf : goal.invariant-loop-leaf
invariant-loop-leaf l =
    All (λ shown. (leaf : PlacedNode) → IsLeafOf l.case leaf shown → MayPress l.case.dialog.now l.number l.mask leaf → ⊥) (take l.leaf-index l.case.leaves.now)
