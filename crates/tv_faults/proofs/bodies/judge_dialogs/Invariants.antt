use Rattle.std.proofs.Common.{◌≡◌, map, take}
use Rattle.tv_faults.specs.Starts.{starts_of}
use Rattle.tv_faults.proofs.bodies.judge_dialogs.Given as goal

abbrev pub invariant-loop-dialog : goal.invariant-loop-dialog
invariant-loop-dialog l = l.starts ≡ map (λ dialog. starts_of dialog.views) (take l.dialog-index l.dialogs)
