use Rattle.std.proofs.Common.{◌≡◌, ◌++◌, [], map, take, drop}
use Rattle.tv_model.specs.Faults.{fault_at}
use Rattle.tv_model.specs.Faults.Lines.{lines_where}
use Rattle.tv_model.specs.Faults.Each.{each_after}
use Rattle.tv_faults.proofs.line.add_where.Given as goal

abbrev pub invariant-loop-i : goal.invariant-loop-i
invariant-loop-i g l = (has : _) → l.faulty ≡ each_after has l.lines
    → l.found ++ map (fault_at l.kind) (lines_where g.L.Line.number has (take l.i l.lines) (drop l.i l.lines)) ≡ l.fn.found ++ map (fault_at l.kind) (lines_where g.L.Line.number has [] l.lines)
