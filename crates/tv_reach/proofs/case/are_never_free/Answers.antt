use Rattle.std.proofs.Common.{◌≡◌, ◌∙◌, true, false, refl, rules, arith, sym}
use Rattle.std.proofs.lemmas.Bool.{true≢false}
use Rattle.tv_machine.specs.Leaves.{PlacedNode}
use Rattle.tv_reach.specs.declared.shown.ShownLeaf.{ShownLeaf}
use Rattle.tv_reach.specs.Found.{IsLeafOf}
use Rattle.tv_reach.specs.Never.{IsNeverFree}
use Rattle.tv_reach.proofs.ClosedLemmas.{goes_on, gone}
use Rattle.tv_reach.proofs.FoundLemmas.{all_here, all_of}
use Rattle.tv_reach.proofs.case.are_never_free.Goals as goal

pub loop-leaf-preserved : goal.loop-leaf-preserved
loop-leaf-preserved c =
    let case = c.args.case.now in
    let yes : c.is_not_free.result ≡ true = search rules in
    goes_on (λ (shown : ShownLeaf). (leaf : PlacedNode) → IsLeafOf case leaf shown → leaf.node.id ≡ c.args.id
    → IsNeverFree case.dialog.now case.masks.now leaf) case.leaves.now
    c.loop-leaf.leaf-index c.leaf-item.result c.loop-leaf-test.true c.leaf-item.is c.loop-leaf.invariant (λ leaf is. (c.is_not_free.ensures leaf is).0 yes)

pub returns-then-not-is_not_free : goal.returns-then-not-is_not_free
returns-then-not-is_not_free c =
    let case = c.args.case.now in
    let no : c.is_not_free.result ≡ false = search rules in (
      (λ e. absurd (true≢false (sym e))),
      (λ all.
          absurd
          (all_here case c.requires (λ leaf. leaf.node.id ≡ c.args.id → IsNeverFree case.dialog.now case.masks.now leaf) c.loop-leaf.leaf-index
          c.leaf-item.result c.loop-leaf-test.true c.leaf-item.is all
          (λ leaf is never. let yes : c.is_not_free.result ≡ true = (c.is_not_free.ensures leaf is).1 never in true≢false (sym yes ∙ no)))),
    )

pub returns : goal.returns
returns c =
    let case = c.args.case.now in (
      (λ e.
          all_of case c.requires (λ leaf. leaf.node.id ≡ c.args.id → IsNeverFree case.dialog.now case.masks.now leaf)
          (gone (λ (shown : ShownLeaf). (leaf : PlacedNode) → IsLeafOf case leaf shown → leaf.node.id ≡ c.args.id
          → IsNeverFree case.dialog.now case.masks.now leaf) case.leaves.now c.loop-leaf.leaf-index
          (omega (arith, c.loop-leaf-test.false)) c.loop-leaf.invariant)),
      (λ all. refl),
    )
