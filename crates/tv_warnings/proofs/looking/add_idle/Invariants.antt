use Rattle.std.proofs.Common.{◌≡◌, ◌++◌, drop, map}
use Rattle.tv_warnings.specs.declared.finding.Finding.TheVariants as found
use Rattle.tv_warnings.proofs.looking.add_idle.Given as goal

abbrev pub invariant-loop-id : goal.invariant-loop-id
invariant-loop-id l =
    l.found.items ++ map (λ i. found.Idle i) (drop l.id-index l.id-items)
    ≡ l.initial.found.items ++ map (λ i. found.Idle i) l.id-items
