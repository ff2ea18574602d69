use Rattle.std.proofs.Common.{arith, subst, sym, ◌+◌, ◌≤◌}
use Rattle.tv_explain.proofs.LineLemmas.{LiesBefore, before_more, rises_more}
use Rattle.tv_explain.proofs.lines.are_in_order.Goals as goal

pub loop-item-preserved : goal.loop-item-preserved
loop-item-preserved g c =
    let number = g.L.Line.number in
    let items = c.args.items.now in
    let at = c.loop-item.item-index in
    let item = c.item-item.result in
    let behind : c.loop-item.last ≤ number item = subst (λ n. c.loop-item.last ≤ n) c.number-number.ensures c.if-number-last.false in (
      rises_more number items at c.loop-item.last item (omega arith) c.item-item.is c.loop-item.invariant.0 c.loop-item.invariant.1 behind,
      subst (LiesBefore number items (at + 1)) (sym c.number-number.ensures) (before_more number items at c.loop-item.last item (omega arith) c.item-item.is c.loop-item.invariant.1 behind),
    )

pub returns : goal.returns
returns g c = λ yes i j d le lt. c.loop-item.invariant.0 i j d le (omega arith)
