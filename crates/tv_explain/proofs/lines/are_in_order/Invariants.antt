use Rattle.tv_explain.proofs.LineLemmas.{LiesBefore, RisesTo}
use Rattle.tv_explain.proofs.lines.are_in_order.Given as goal

-- those so far are in order, and none is behind the last
abbrev pub invariant-loop-item : goal.invariant-loop-item
invariant-loop-item g l = RisesTo g.L.Line.number l.items l.item-index × LiesBefore g.L.Line.number l.items l.item-index l.last
