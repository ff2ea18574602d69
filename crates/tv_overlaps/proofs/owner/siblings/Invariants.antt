use Rattle.std.proofs.Common.{◌≡◌, length}
use Rattle.tv_overlaps.proofs.SiblingLemmas.{AreFirstNumbers}
use Rattle.tv_overlaps.proofs.owner.siblings.Given as goal

abbrev pub invariant-loop-place : goal.invariant-loop-place
invariant-loop-place l = (length l.firsts.items ≡ l.place) × AreFirstNumbers l.firsts.items l.views
