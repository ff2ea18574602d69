use Rattle.std.proofs.Common.{◌≡◌, ◌++◌, drop, flat_map}
use Rattle.tv_ways.specs.Idle.{idle_buttons}
use Rattle.tv_ways.proofs.idle.add_dialogs.Given as goal

abbrev pub invariant-loop-dialog : goal.invariant-loop-dialog
invariant-loop-dialog l = l.ids.items ++ flat_map (λ dialog. idle_buttons dialog.views) (drop l.dialog-index l.dialogs) ≡ l.initial.ids.items ++ flat_map (λ dialog. idle_buttons dialog.views) l.dialogs
