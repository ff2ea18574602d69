use Rattle.std.proofs.Common.{◌≡◌, drop}
use Rattle.tv_explain.specs.Keys.{shortcut_line}
use Rattle.tv_explain.proofs.keys.shortcut_line.Given as goal

abbrev pub invariant-loop-dialog : goal.invariant-loop-dialog
invariant-loop-dialog l = shortcut_line l.letter (drop l.dialog-index l.dialogs) ≡ shortcut_line l.letter l.dialogs
