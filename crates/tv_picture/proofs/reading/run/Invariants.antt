use Rattle.std.proofs.Common.{◌-◌, length}
use Rattle.tv_picture.proofs.Lowest.{Goes}
use Rattle.tv_picture.proofs.reading.run.Given as goal

abbrev pub invariant-loop-place : goal.invariant-loop-place
invariant-loop-place l = Goes l.text l.code l.first l.tables l.height l.place

abbrev pub decreases-loop-place : goal.decreases-loop-place
decreases-loop-place l = length l.code - l.place
