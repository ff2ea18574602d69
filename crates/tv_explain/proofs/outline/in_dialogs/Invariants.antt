use Rattle.std.proofs.Common.{◌≡◌, ◌++◌, map, drop}
use Rattle.tv_explain.specs.Inside.{ruled}
use Rattle.tv_explain.proofs.outline.in_dialogs.Given as goal

abbrev pub invariant-loop-dialog : goal.invariant-loop-dialog
invariant-loop-dialog l =
    l.dialogs.items ++ map (ruled l.desc.version) (drop l.dialog-index l.dialog-items) ≡ map (ruled l.desc.version) l.desc.dialogs
