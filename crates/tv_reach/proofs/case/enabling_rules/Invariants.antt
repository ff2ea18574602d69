use Rattle.tv_machine.specs.Dialog.Rules.{enables}
use Rattle.tv_reach.proofs.RuleSetLemmas.{IsFirstMaskOf}
use Rattle.tv_reach.proofs.case.enabling_rules.Given as goal

-- the rules before this place that pass
abbrev pub invariant-loop-place : goal.invariant-loop-place
invariant-loop-place l = IsFirstMaskOf (λ rule. enables l.number rule.effect) l.rules l.place l.mask
