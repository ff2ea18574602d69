use Rattle.std.proofs.Common.{◌≡◌, ◌++◌, drop, flat_map}
use Rattle.tv_warnings.specs.Findings.{way_findings}
use Rattle.tv_warnings.proofs.looking.add_ways.Given as goal

abbrev pub invariant-loop-way : goal.invariant-loop-way
invariant-loop-way l =
    l.found.items ++ flat_map (way_findings l.dialog l.ways) (drop l.way-index l.ways)
    ≡ l.initial.found.items ++ flat_map (way_findings l.dialog l.ways) l.ways
