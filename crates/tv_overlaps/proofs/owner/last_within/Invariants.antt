use Rattle.std.proofs.Common.{◌≤◌}
use Rattle.tv_overlaps.proofs.DepthLemmas.{AreDeeper, up_to}
use Rattle.tv_overlaps.proofs.owner.last_within.Given as goal

abbrev pub invariant-loop-nearest : goal.invariant-loop-nearest
invariant-loop-nearest l = (up_to l.nearest ≤ l.place) × AreDeeper l.views l.depth (up_to l.nearest) l.place

abbrev pub decreases-loop-nearest : goal.decreases-loop-nearest
decreases-loop-nearest l = up_to l.nearest
