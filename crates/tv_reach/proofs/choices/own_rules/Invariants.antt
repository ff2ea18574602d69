use Rattle.tv_reach.specs.Shown.{is_own_in}
use Rattle.tv_reach.proofs.RuleSetLemmas.{IsFirstMaskOf}
use Rattle.tv_reach.proofs.choices.own_rules.Given as goal

-- the rules before this place that pass
abbrev pub invariant-loop-place : goal.invariant-loop-place
invariant-loop-place l = IsFirstMaskOf (is_own_in l.names l.node) l.rules l.place l.mask
