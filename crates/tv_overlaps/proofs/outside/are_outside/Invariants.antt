use Rattle.std.proofs.Common.{◌≡◌, ◌++◌, [], map, take, drop}
use Rattle.tv_model.specs.Faults.Lines.{after_seen}
use Rattle.tv_model.specs.Faults.Places.{is_outside}
use Rattle.tv_overlaps.proofs.outside.are_outside.Given as goal

abbrev pub invariant-loop-place : goal.invariant-loop-place
invariant-loop-place l =
    l.outside.items ++ map (λ pair. is_outside l.frame pair.0 pair.1) (after_seen (take l.place l.views) (drop l.place l.views)) ≡ map (λ pair. is_outside l.frame pair.0 pair.1) (after_seen [] l.views)
