use Rattle.std.proofs.Common.{◌≡◌, length}
use Rattle.tv_overlaps.specs.Standing.{AreFirstOwners}
use Rattle.tv_overlaps.proofs.owner.owners.Given as goal

abbrev pub invariant-loop-place : goal.invariant-loop-place
invariant-loop-place l = (length l.owners.items ≡ l.place) × AreFirstOwners l.owners.items l.views
