use Rattle.std.proofs.Common.{Bool, ◌+◌, sym, subst, ◌∙◌, arith}
use Rattle.tv_model.specs.declared.desc.Rule.{Rule}
use Rattle.tv_reach.specs.Shown.{is_own_in}
use Rattle.tv_reach.proofs.RuleSetLemmas.{IsFirstMaskOf, mask_all, mask_more, mask_none, mask_same}
use Rattle.tv_reach.proofs.choices.own_rules.Goals as goal
use Rattle.tv_reach.proofs.choices.own_rules.Goals.{then-is_own, else-is_own}

pub loop-place-init : goal.loop-place-init
loop-place-init c = mask_none (is_own_in c.args.names.now c.args.node.now) c.args.rules.now

pub loop-place-preserved : goal.loop-place-preserved
loop-place-preserved c =
    let test : Rule → Bool = (is_own_in c.args.names.now c.args.node.now) in
    let rules = c.args.rules.now in
    let place = c.loop-place.place in
    let rule = c.index-rules-place.result in
    elim c.if-is_own.branch [
      | then-is_own w ↦
          subst (IsFirstMaskOf test rules (place + 1)) (sym w.mask-is)
          (mask_more test rules place rule c.loop-place-test.true c.index-rules-place.is c.loop-place.mask c.loop-place.invariant
          w.only.result w.union-mask.result (sym c.is_own.ensures ∙ w.if-is_own.true) w.only.ensures w.union-mask.ensures)
      | else-is_own w ↦
          subst (IsFirstMaskOf test rules (place + 1)) (sym w.mask-is)
          (mask_same test rules place rule c.loop-place-test.true c.index-rules-place.is c.loop-place.mask c.loop-place.invariant
          (sym c.is_own.ensures ∙ w.if-is_own.false))
    ]

pub returns : goal.returns
returns c = mask_all (is_own_in c.args.names.now c.args.node.now) c.args.rules.now c.loop-place.place c.loop-place.mask (omega arith) c.loop-place.invariant
