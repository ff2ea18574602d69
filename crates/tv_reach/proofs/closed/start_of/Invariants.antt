use Rattle.std.proofs.Common.{ℕ, take}
use Rattle.std.specs.Prelude.{All, Any}
use Rattle.tv_reach.specs.Masks.{HasRule}
use Rattle.tv_reach.specs.Shown.{HasStarting, Passes, starts_in}
use Rattle.tv_reach.proofs.closed.start_of.Given as goal

-- the rules of the leaves so far, and no others
abbrev pub invariant-loop-leaf : goal.invariant-loop-leaf
invariant-loop-leaf l = record {
  has : All (λ leaf. HasStarting l.names l.rules l.start leaf.node.now) (take l.leaf-index l.leaves);
  only : (place : ℕ) → HasRule l.start place → Any (λ leaf. Passes (starts_in l.names leaf.node.now) l.rules place) l.leaves;
}
