use Rattle.std.proofs.Common.{◌≡◌, ◌∙◌, true, false, refl, rules, arith, sym}
use Rattle.std.proofs.lemmas.Bool.{true≢false}
use Rattle.tv_machine.specs.Leaves.{PlacedNode}
use Rattle.tv_reach.specs.declared.shown.ShownLeaf.{ShownLeaf}
use Rattle.tv_reach.specs.Found.{IsLeafOf}
use Rattle.tv_reach.specs.Never.{IsFieldIn}
use Rattle.tv_reach.proofs.ClosedLemmas.{goes_on, gone}
use Rattle.tv_machine.specs.Leaves.{leaf_list}
use Rattle.tv_reach.proofs.FoundLemmas.{not_any, zip_any}
use Rattle.tv_reach.proofs.giving.shows_field.Goals as goal

pub loop-leaf-preserved : goal.loop-leaf-preserved
loop-leaf-preserved c =
    let case = c.args.case.now in
    let no : c.is_field_shown.result ≡ false = search rules in
    goes_on (λ (shown : ShownLeaf). (leaf : PlacedNode) → IsLeafOf case leaf shown → IsFieldIn case.dialog.now c.args.mask leaf → ⊥) case.leaves.now
    c.loop-leaf.leaf-index c.leaf-item.result c.loop-leaf-test.true c.leaf-item.is c.loop-leaf.invariant
    (λ leaf is field. let yes : c.is_field_shown.result ≡ true = (c.is_field_shown.ensures case leaf is).1 field in true≢false (sym yes ∙ no))

pub returns-then-is_field_shown : goal.returns-then-is_field_shown
returns-then-is_field_shown c =
    let case = c.args.case.now in (
      (λ e.
          zip_any (IsLeafOf case) (IsFieldIn case.dialog.now c.args.mask) (leaf_list case.dialog.now.views) case.leaves.now c.loop-leaf.leaf-index
          c.leaf-item.result c.requires.leaves c.loop-leaf-test.true c.leaf-item.is
          (λ leaf is. (c.is_field_shown.ensures case leaf is).0 c.if-is_field_shown.true)),
      (λ may. refl),
    )

pub returns : goal.returns
returns c =
    let case = c.args.case.now in (
      (λ e. absurd (true≢false (sym e))),
      (λ may.
          absurd (not_any case c.requires (IsFieldIn case.dialog.now c.args.mask)
          (gone (λ (shown : ShownLeaf). (leaf : PlacedNode) → IsLeafOf case leaf shown → IsFieldIn case.dialog.now c.args.mask leaf → ⊥) case.leaves.now
          c.loop-leaf.leaf-index (omega (arith, c.loop-leaf-test.false)) c.loop-leaf.invariant) may)),
    )
