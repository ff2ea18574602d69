use Rattle.std.proofs.Common.{◌≡◌, ◌∙◌, true, false, ap, rules, arith, sym, subst}
use Rattle.std.proofs.lemmas.Bool.{true≢false}
use Rattle.tv_model.specs.declared.node.Id.{Id}
use Rattle.tv_machine.specs.Leaves.{PlacedNode, leaf_list}
use Rattle.tv_reach.specs.declared.shown.ShownLeaf.{ShownLeaf}
use Rattle.tv_reach.specs.Found.{IsLeafOf}
use Rattle.tv_reach.specs.Never.{Blocks}
use Rattle.tv_reach.proofs.ClosedLemmas.{goes_on, gone}
use Rattle.tv_reach.proofs.FoundLemmas.{all_of, zip_any}
use Rattle.tv_reach.proofs.case.blocking.Goals as goal

pub returns-then-blocks-clause-found : goal.returns-then-blocks-clause-found
returns-then-blocks-clause-found c =
    let case = c.args.case.now in
    let shown = c.leaf-item.result in
    zip_any (IsLeafOf case) (Blocks case.dialog.now case.masks.now shown.node.now.id) (leaf_list case.dialog.now.views) case.leaves.now
    c.loop-leaf.leaf-index shown c.requires.leaves c.loop-leaf-test.true c.leaf-item.is
    (λ leaf is.
    subst (λ (i : Id). Blocks case.dialog.now case.masks.now i leaf) (sym (ap (λ node. node.id) is.node)) ((c.in_ok-blocks.ensures leaf is).0 c.if-blocks.true))

pub loop-leaf-preserved : goal.loop-leaf-preserved
loop-leaf-preserved c =
    let case = c.args.case.now in
    let no : c.in_ok-blocks.blocks ≡ false = search rules in
    goes_on (λ (shown : ShownLeaf). (leaf : PlacedNode) → IsLeafOf case leaf shown → Blocks case.dialog.now case.masks.now leaf.node.id leaf → ⊥) case.leaves.now
    c.loop-leaf.leaf-index c.leaf-item.result c.loop-leaf-test.true c.leaf-item.is c.loop-leaf.invariant
    (λ leaf is blocks. let yes : c.in_ok-blocks.blocks ≡ true = (c.in_ok-blocks.ensures leaf is).1 blocks in true≢false (sym yes ∙ no))

pub returns-clause-exact : goal.returns-clause-exact
returns-clause-exact c =
    let case = c.args.case.now in
    all_of case c.requires (λ leaf. Blocks case.dialog.now case.masks.now leaf.node.id leaf → ⊥)
    (gone (λ (shown : ShownLeaf). (leaf : PlacedNode) → IsLeafOf case leaf shown → Blocks case.dialog.now case.masks.now leaf.node.id leaf → ⊥) case.leaves.now
    c.loop-leaf.leaf-index (omega (arith, c.loop-leaf-test.false)) c.loop-leaf.invariant)
