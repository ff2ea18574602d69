use Rattle.std.proofs.Common.{◌≡◌, ◌++◌, drop}
use Rattle.std.specs.List.{zip}
use Rattle.tv_overlaps.specs.Placing.{placed_from}
use Rattle.tv_overlaps.proofs.overlap.placed.Given as goal

abbrev pub invariant-loop-place : goal.invariant-loop-place
invariant-loop-place l = l.items.items ++ placed_from l.place (drop l.place (zip l.owners l.views)) ≡ placed_from 0 (zip l.owners l.views)
