use Rattle.tv_machine.specs.Dialog.Rules.{shows}
use Rattle.tv_reach.specs.Shown.{placed_node}
use Rattle.tv_reach.proofs.RuleSetLemmas.{IsFirstMaskOf}
use Rattle.tv_reach.proofs.shown.shown_by.Given as goal

-- the rules before this place that pass
abbrev pub invariant-loop-place : goal.invariant-loop-place
invariant-loop-place l = IsFirstMaskOf (λ rule. shows l.names (placed_node l.leaf) rule.effect) l.rules l.place l.mask
