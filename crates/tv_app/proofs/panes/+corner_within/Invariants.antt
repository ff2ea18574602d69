use Rattle.std.proofs.Common.{length}
use Rattle.tv_app.proofs.panes.+corner_within.Given as goal

abbrev pub decreases-corner_within : goal.decreases-corner_within
decreases-corner_within l = length l.before.now
