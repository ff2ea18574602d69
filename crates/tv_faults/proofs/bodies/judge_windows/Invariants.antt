use Rattle.std.proofs.Common.{◌≡◌, map, take}
use Rattle.tv_faults.specs.Starts.{starts_of}
use Rattle.tv_faults.proofs.bodies.judge_windows.Given as goal

abbrev pub invariant-loop-window : goal.invariant-loop-window
invariant-loop-window l = l.starts ≡ map (λ window. starts_of window.views) (take l.window-index l.windows)
