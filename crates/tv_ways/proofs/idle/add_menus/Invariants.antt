use Rattle.std.proofs.Common.{◌≡◌, ◌++◌, drop, flat_map}
use Rattle.tv_ways.specs.Idle.{idle_items}
use Rattle.tv_ways.proofs.idle.add_menus.Given as goal

abbrev pub invariant-loop-menu : goal.invariant-loop-menu
invariant-loop-menu l = l.ids.items ++ flat_map (λ menu. idle_items menu.items) (drop l.menu-index l.menus) ≡ l.initial.ids.items ++ flat_map (λ menu. idle_items menu.items) l.menus
