use Rattle.std.proofs.Common.{◌&&◌}
use Rattle.tv_reach.specs.Masks.{may_hold}
use Rattle.tv_reach.specs.Shown.{is_own_in}
use Rattle.tv_reach.proofs.RuleSetLemmas.{IsFirstMaskOf}
use Rattle.tv_reach.proofs.choices.chosen_rules.Given as goal

-- the rules before this place that pass
abbrev pub invariant-loop-place : goal.invariant-loop-place
invariant-loop-place l = IsFirstMaskOf (λ rule. is_own_in l.names l.node rule && may_hold l.node.kind l.item rule) l.rules l.place l.mask
