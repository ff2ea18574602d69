use Rattle.std.proofs.Common.{◌≡◌, ◌++◌, [], map, flat_map, take, drop}
use Rattle.tv_model.specs.Faults.Lines.{after_seen}
use Rattle.tv_model.specs.Faults.{dialog_lines, fault_at}
use Rattle.tv_faults.proofs.list.add_dialogs.Given as goal

abbrev pub invariant-loop-i : goal.invariant-loop-i
invariant-loop-i l = l.found ++ map (fault_at l.kind) (flat_map (λ pair. dialog_lines l.kind l.desc pair.0 pair.1) (after_seen (take l.i l.dialogs) (drop l.i l.dialogs)))
    ≡ l.fn.found ++ map (fault_at l.kind) (flat_map (λ pair. dialog_lines l.kind l.desc pair.0 pair.1) (after_seen [] l.desc.dialogs))
