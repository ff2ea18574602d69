use Rattle.std.proofs.Common.{arith, subst, All}
use Rattle.std.proofs.lemmas.List.{take_all}
use Rattle.std.proofs.lemmas.List.Elements.{All-more}
use Rattle.std.specs.List.Sorted.{IsNonDecreasingBy}
use Rattle.tv_explain.specs.Outline.{IsMenuInOrder}
use Rattle.tv_explain.proofs.outline.are_menus_in_order.Goals as goal

pub loop-menu-preserved : goal.loop-menu-preserved
loop-menu-preserved c =
    All-more IsMenuInOrder c.args.menus.now c.loop-menu.menu-index c.menu-item.result (omega arith) c.loop-menu.invariant
    (subst IsMenuInOrder c.menu-item.is (subst (IsNonDecreasingBy (λ item. item.id.0)) c.as_slice.ensures (c.are_in_order.ensures c.if-not-are_in_order.false)))

pub returns : goal.returns
returns c = λ yes. subst (All IsMenuInOrder) (take_all c.loop-menu.menu-index c.args.menus.now (omega arith)) c.loop-menu.invariant
