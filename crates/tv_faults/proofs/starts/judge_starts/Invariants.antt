use Rattle.std.proofs.Common.{◌≡◌, take}
use Rattle.tv_faults.specs.Starts.{starts_of}
use Rattle.tv_faults.proofs.starts.judge_starts.Given as goal

abbrev pub invariant-loop-view : goal.invariant-loop-view
invariant-loop-view l = l.starts ≡ starts_of (take l.view-index l.views)
