use Rattle.std.proofs.Common.{◌≡◌, take}
use Rattle.std.specs.Prelude.{All}
use Rattle.tv_machine.specs.Leaves.{PlacedNode}
use Rattle.tv_reach.specs.Found.{IsLeafOf}
use Rattle.tv_reach.specs.Runs.{IsNeverShown}
use Rattle.tv_reach.proofs.case.are_never_shown.Given as goal

-- those so far that have the id are never shown
abbrev pub invariant-loop-leaf : goal.invariant-loop-leaf
invariant-loop-leaf l =
    All (λ shown. (leaf : PlacedNode) → IsLeafOf l.case leaf shown → leaf.node.id ≡ l.id
    → IsNeverShown l.case.dialog.now l.case.masks.now leaf) (take l.leaf-index l.case.leaves.now)
