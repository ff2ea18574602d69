use Rattle.std.proofs.Common.{Bool, ◌&&◌, ◌+◌, sym, subst, ◌∙◌, arith}
use Rattle.tv_model.specs.declared.desc.Rule.{Rule}
use Rattle.tv_reach.specs.Masks.{may_hold}
use Rattle.tv_reach.specs.Shown.{is_own_in}
use Rattle.tv_reach.proofs.RuleSetLemmas.{IsFirstMaskOf, mask_all, mask_more, mask_none, mask_same}
use Rattle.tv_reach.proofs.choices.chosen_rules.Goals as goal
use Rattle.tv_reach.proofs.choices.chosen_rules.Goals.{then-is_chosen, else-is_chosen}

pub loop-place-init : goal.loop-place-init
loop-place-init c = mask_none (λ rule. is_own_in c.args.names.now c.args.node.now rule && may_hold c.args.node.now.kind c.args.item rule) c.args.rules.now

pub loop-place-preserved : goal.loop-place-preserved
loop-place-preserved c =
    let test : Rule → Bool = (λ rule. is_own_in c.args.names.now c.args.node.now rule && may_hold c.args.node.now.kind c.args.item rule) in
    let rules = c.args.rules.now in
    let place = c.loop-place.place in
    let rule = c.index-rules-place.result in
    elim c.if-is_chosen.branch [
      | then-is_chosen w ↦
          subst (IsFirstMaskOf test rules (place + 1)) (sym w.mask-is)
          (mask_more test rules place rule c.loop-place-test.true c.index-rules-place.is c.loop-place.mask c.loop-place.invariant
          w.only.result w.union-mask.result (sym c.is_chosen.ensures ∙ w.if-is_chosen.true) w.only.ensures w.union-mask.ensures)
      | else-is_chosen w ↦
          subst (IsFirstMaskOf test rules (place + 1)) (sym w.mask-is)
          (mask_same test rules place rule c.loop-place-test.true c.index-rules-place.is c.loop-place.mask c.loop-place.invariant
          (sym c.is_chosen.ensures ∙ w.if-is_chosen.false))
    ]

pub returns : goal.returns
returns c = mask_all (λ rule. is_own_in c.args.names.now c.args.node.now rule && may_hold c.args.node.now.kind c.args.item rule) c.args.rules.now c.loop-place.place c.loop-place.mask (omega arith) c.loop-place.invariant
