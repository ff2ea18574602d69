use Rattle.std.proofs.Common.{◌≡◌, ◌++◌, map, drop}
use Rattle.tv_explain.specs.Inside.{in_frame}
use Rattle.tv_explain.proofs.outline.in_windows.Given as goal

abbrev pub invariant-loop-window : goal.invariant-loop-window
invariant-loop-window l =
    l.windows.items ++ map in_frame (drop l.window-index l.window-items) ≡ map in_frame l.desc.windows
