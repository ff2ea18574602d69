use Rattle.std.proofs.Common.{◌≡◌, ◌++◌, drop}
use Rattle.tv_ways.specs.Idle.{idle_items}
use Rattle.tv_ways.proofs.idle.add_items.Given as goal

abbrev pub invariant-loop-item : goal.invariant-loop-item
invariant-loop-item l = l.ids.items ++ idle_items (drop l.item-index l.items) ≡ l.initial.ids.items ++ idle_items l.items
