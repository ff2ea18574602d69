use Rattle.std.proofs.Common.{◌≡◌, ◌∙◌, true, false, refl, rules, arith, sym, subst}
use Rattle.std.proofs.lemmas.Bool.{true≢false}
use Rattle.tv_reach.specs.Shown.{IsLeafFollowed}
use Rattle.tv_reach.proofs.ClosedLemmas.{goes_on, gone}
use Rattle.tv_reach.proofs.closed.are_leaves_followed.Goals as goal

pub loop-leaf-preserved : goal.loop-leaf-preserved
loop-leaf-preserved c =
    let yes : c.is_leaf_followed.result ≡ true = search rules in
    goes_on (IsLeafFollowed c.args.names.now c.args.rules.now c.args.masks.now) c.args.leaves.now
    c.loop-leaf.leaf-index c.leaf-item.result c.loop-leaf-test.true c.leaf-item.is c.loop-leaf.invariant (c.is_leaf_followed.ensures.followed yes)

pub returns-then-not-is_leaf_followed-clause-exact : goal.returns-then-not-is_leaf_followed-clause-exact
returns-then-not-is_leaf_followed-clause-exact c = λ within all.
    let leaf = c.leaf-item.result in
    let no : c.is_leaf_followed.result ≡ false = search rules in
    let yes : c.is_leaf_followed.result ≡ true
    = c.is_leaf_followed.ensures.exact within
    (subst (IsLeafFollowed c.args.names.now c.args.rules.now c.args.masks.now) (sym c.leaf-item.is) (all c.loop-leaf.leaf-index leaf c.loop-leaf-test.true)) in
    absurd (true≢false (sym yes ∙ no))

pub returns-clause-exact : goal.returns-clause-exact
returns-clause-exact c = λ within all. refl

pub returns-clause-followed : goal.returns-clause-followed
returns-clause-followed c = λ e.
    gone (IsLeafFollowed c.args.names.now c.args.rules.now c.args.masks.now) c.args.leaves.now
    c.loop-leaf.leaf-index (omega (arith, c.loop-leaf-test.false)) c.loop-leaf.invariant
