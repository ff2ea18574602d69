use Rattle.std.proofs.Common.{◌≡◌, ◌∙◌, true, false, Some, option_map, refl, rules, arith, sym, subst}
use Rattle.std.proofs.lemmas.Bool.{true≢false}
use Rattle.tv_model.specs.Description.Commands.{command_number, command_of}
use Rattle.tv_machine.specs.Leaves.{PlacedNode}
use Rattle.tv_reach.specs.declared.shown.ShownLeaf.{ShownLeaf}
use Rattle.tv_reach.specs.Found.{IsLeafOf}
use Rattle.tv_reach.specs.Never.{GivesEnd}
use Rattle.tv_reach.proofs.ClosedLemmas.{goes_on, gone}
use Rattle.tv_reach.proofs.FoundLemmas.{all_here, none_of}
use Rattle.tv_reach.proofs.giving.is_without_giver.Goals as goal

pub loop-leaf-preserved : goal.loop-leaf-preserved
loop-leaf-preserved c =
    let givers = c.args.givers.now in
    let case = givers.case.now in
    let no : c.gives.result ≡ false = search rules in
    goes_on (λ (shown : ShownLeaf). (leaf : PlacedNode) → IsLeafOf case leaf shown → GivesEnd givers.number leaf → ⊥) case.leaves.now
    c.loop-leaf.leaf-index c.leaf-item.result c.loop-leaf-test.true c.leaf-item.is c.loop-leaf.invariant
    (λ leaf is given.
    let yes : c.gives.result ≡ true
    = c.gives.ensures.1 (subst (λ node. option_map command_number (command_of node.kind) ≡ Some givers.number) (sym is.node) given) in
    true≢false (sym yes ∙ no))

pub returns-then-gives : goal.returns-then-gives
returns-then-gives c =
    let givers = c.args.givers.now in
    let case = givers.case.now in (
      (λ e. absurd (true≢false (sym e))),
      (λ none.
          absurd
          (all_here case c.requires.case (λ leaf. GivesEnd givers.number leaf → ⊥) c.loop-leaf.leaf-index c.leaf-item.result c.loop-leaf-test.true
          c.leaf-item.is none.buttons
          (λ leaf is free.
          free (subst (λ node. option_map command_number (command_of node.kind) ≡ Some givers.number) is.node (c.gives.ensures.0 c.if-gives.true))))),
    )

pub returns-then-givers : goal.returns-then-givers
returns-then-givers c = (
  (λ e. absurd (true≢false (sym e))),
  (λ none. absurd (none.status (c.requires.status.0 c.if-givers.true))),
)

pub returns : goal.returns
returns c = (
  λ e.
      let givers = c.args.givers.now in
      let case = givers.case.now in
      let off : givers.has_status ≡ false = search rules in
      record {
        buttons = none_of case c.requires.case (GivesEnd givers.number)
            (gone (λ (shown : ShownLeaf). (leaf : PlacedNode) → IsLeafOf case leaf shown → GivesEnd givers.number leaf → ⊥) case.leaves.now
            c.loop-leaf.leaf-index (omega (arith, c.loop-leaf-test.false)) c.loop-leaf.invariant);
        status = λ has. true≢false (sym (c.requires.status.1 has) ∙ off);
      },
  λ none. refl,
)
