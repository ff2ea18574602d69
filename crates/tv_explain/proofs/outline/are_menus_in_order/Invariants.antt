use Rattle.std.proofs.Common.{All, take}
use Rattle.tv_explain.specs.Outline.{IsMenuInOrder}
use Rattle.tv_explain.proofs.outline.are_menus_in_order.Given as goal

abbrev pub invariant-loop-menu : goal.invariant-loop-menu
invariant-loop-menu l = All IsMenuInOrder (take l.menu-index l.menus)
