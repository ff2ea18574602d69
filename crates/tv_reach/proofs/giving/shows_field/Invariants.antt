use Rattle.std.proofs.Common.{take}
use Rattle.std.specs.Prelude.{All}
use Rattle.tv_machine.specs.Leaves.{PlacedNode}
use Rattle.tv_reach.specs.Found.{IsLeafOf}
use Rattle.tv_reach.specs.Never.{IsFieldIn}
use Rattle.tv_reach.proofs.giving.shows_field.Given as goal

-- none so far may be shown as a field
abbrev pub invariant-loop-leaf : goal.invariant-loop-leaf
invariant-loop-leaf l =
    All (λ shown. (leaf : PlacedNode) → IsLeafOf l.case leaf shown → IsFieldIn l.case.dialog.now l.mask leaf → ⊥) (take l.leaf-index l.case.leaves.now)
