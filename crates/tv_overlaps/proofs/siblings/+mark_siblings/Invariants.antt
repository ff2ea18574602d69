use Rattle.std.proofs.Common.{◌-◌}
use Rattle.tv_overlaps.proofs.siblings.+mark_siblings.Given as goal

abbrev pub decreases-mark_siblings : goal.decreases-mark_siblings
decreases-mark_siblings l = l.last - l.first
