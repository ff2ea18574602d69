use Rattle.std.proofs.Common.{◌≡◌, ◌++◌, drop, map}
use Rattle.tv_warnings.specs.declared.finding.Finding.TheVariants as found
use Rattle.tv_warnings.proofs.looking.add_cuts.Given as goal

abbrev pub invariant-loop-cut : goal.invariant-loop-cut
invariant-loop-cut l =
    l.found.items ++ map (λ cut. found.Cut cut) (drop l.cut-index l.cut-items)
    ≡ l.initial.found.items ++ map (λ cut. found.Cut cut) l.cut-items
