use Rattle.tv_group.proofs.OutlineLemmas.{Left}
use Rattle.tv_group.proofs.group.+follow.Given as goal

abbrev pub invariant-GroupOf::follow-loop-member : goal.invariant-GroupOf::follow-loop-member
invariant-GroupOf::follow-loop-member g l = Left g.V.View.meaning l.depth l.member-index l.self l.nodes l.left
