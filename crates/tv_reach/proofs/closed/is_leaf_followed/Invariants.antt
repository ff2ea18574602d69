use Rattle.std.proofs.Common.{take}
use Rattle.std.specs.Prelude.{All}
use Rattle.tv_reach.specs.Shown.{IsRuleFollowed}
use Rattle.tv_reach.proofs.closed.is_leaf_followed.Given as goal

abbrev pub invariant-loop-rule : goal.invariant-loop-rule
invariant-loop-rule l = All (IsRuleFollowed l.names l.rules l.masks l.leaf) (take l.rule-index l.rules)
