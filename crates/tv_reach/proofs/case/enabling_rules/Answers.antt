use Rattle.std.proofs.Common.{Bool, ◌+◌, sym, subst, ◌∙◌, arith}
use Rattle.tv_model.specs.declared.desc.Rule.{Rule}
use Rattle.tv_machine.specs.Dialog.Rules.{enables}
use Rattle.tv_reach.proofs.RuleSetLemmas.{IsFirstMaskOf, mask_all, mask_more, mask_none, mask_same}
use Rattle.tv_reach.proofs.case.enabling_rules.Goals as goal
use Rattle.tv_reach.proofs.case.enabling_rules.Goals.{then-is_enabling, else-is_enabling}

pub loop-place-init : goal.loop-place-init
loop-place-init c = mask_none (λ rule. enables c.args.number rule.effect) c.args.rules.now

pub loop-place-preserved : goal.loop-place-preserved
loop-place-preserved c =
    let test : Rule → Bool = (λ rule. enables c.args.number rule.effect) in
    let rules = c.args.rules.now in
    let place = c.loop-place.place in
    let rule = c.index-rules-place.result in
    elim c.if-is_enabling.branch [
      | then-is_enabling w ↦
          subst (IsFirstMaskOf test rules (place + 1)) (sym w.mask-is)
          (mask_more test rules place rule c.loop-place-test.true c.index-rules-place.is c.loop-place.mask c.loop-place.invariant
          w.only.result w.union-mask.result (sym c.is_enabling.ensures ∙ w.if-is_enabling.true) w.only.ensures w.union-mask.ensures)
      | else-is_enabling w ↦
          subst (IsFirstMaskOf test rules (place + 1)) (sym w.mask-is)
          (mask_same test rules place rule c.loop-place-test.true c.index-rules-place.is c.loop-place.mask c.loop-place.invariant
          (sym c.is_enabling.ensures ∙ w.if-is_enabling.false))
    ]

pub returns : goal.returns
returns c = mask_all (λ rule. enables c.args.number rule.effect) c.args.rules.now c.loop-place.place c.loop-place.mask (omega arith) c.loop-place.invariant
