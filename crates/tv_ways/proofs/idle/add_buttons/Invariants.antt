use Rattle.std.proofs.Common.{◌≡◌, ◌++◌, drop}
use Rattle.tv_ways.specs.Idle.{idle_buttons}
use Rattle.tv_ways.proofs.idle.add_buttons.Given as goal

abbrev pub invariant-loop-view : goal.invariant-loop-view
invariant-loop-view l = l.ids.items ++ idle_buttons (drop l.view-index l.views) ≡ l.initial.ids.items ++ idle_buttons l.views
