use Rattle.std.proofs.Common.{inl, inr, refl, sym, take, arith}
use Rattle.std.proofs.lemmas.List.Elements.{All-nil, All-weaker}
use Rattle.tv_reach.specs.declared.shown.ShownLeaf.{ShownLeaf}
use Rattle.tv_reach.specs.Shown.{HasStarting}
use Rattle.tv_reach.proofs.BitLemmas.{none_set}
use Rattle.tv_reach.proofs.ClosedLemmas.{goes_on, gone, one_of}
use Rattle.tv_reach.proofs.closed.start_of.Goals as goal

pub loop-leaf-init : goal.loop-leaf-init
loop-leaf-init c = record {
  has = All-nil (λ (leaf : ShownLeaf). HasStarting c.args.names.now c.args.rules.now (record { bits = 0 }) leaf.node.now);
  only = λ place has. absurd (none_set 0 refl place has);
}

pub loop-leaf-preserved : goal.loop-leaf-preserved
loop-leaf-preserved c =
    let views = c.args.names.now in
    let rules = c.args.rules.now in
    let leaves = c.args.leaves.now in
    record {
      has =
          goes_on (λ (leaf : ShownLeaf). HasStarting views rules c.union-start.result leaf.node.now) leaves c.loop-leaf.leaf-index c.leaf-item.result
          c.loop-leaf-test.true c.leaf-item.is
          (All-weaker (λ (leaf : ShownLeaf). HasStarting views rules c.loop-leaf.start leaf.node.now)
          (λ (leaf : ShownLeaf). HasStarting views rules c.union-start.result leaf.node.now)
          (λ leaf has place passes. (c.union-start.ensures place).1 (inl (has place passes))) (take c.loop-leaf.leaf-index leaves) c.loop-leaf.invariant.has)
          (λ place passes. (c.union-start.ensures place).1 (inr ((c.starting_rules.ensures place).1 passes)));
      only = λ place has.
          one_of (λ old. c.loop-leaf.invariant.only place old)
          (λ new. (c.loop-leaf.leaf-index, c.leaf-item.result, c.loop-leaf-test.true, sym c.leaf-item.is, (c.starting_rules.ensures place).0 new))
          ((c.union-start.ensures place).0 has);
    }

pub returns-clause-has : goal.returns-clause-has
returns-clause-has c =
    gone (λ (leaf : ShownLeaf). HasStarting c.args.names.now c.args.rules.now c.loop-leaf.start leaf.node.now) c.args.leaves.now
    c.loop-leaf.leaf-index (omega (arith, c.loop-leaf-test.false)) c.loop-leaf.invariant.has

pub returns-clause-only : goal.returns-clause-only
returns-clause-only c = c.loop-leaf.invariant.only
