use Rattle.std.proofs.Common.{◌≡◌, ◌++◌, [], map, flat_map, take, drop}
use Rattle.tv_model.specs.Faults.Lines.{after_seen}
use Rattle.tv_model.specs.Faults.{fault_at, window_lines}
use Rattle.tv_faults.proofs.list.add_windows.Given as goal

abbrev pub invariant-loop-i : goal.invariant-loop-i
invariant-loop-i l = l.found ++ map (fault_at l.kind) (flat_map (λ pair. window_lines l.kind pair.0 pair.1) (after_seen (take l.i l.windows) (drop l.i l.windows)))
    ≡ l.fn.found ++ map (fault_at l.kind) (flat_map (λ pair. window_lines l.kind pair.0 pair.1) (after_seen [] l.windows))
