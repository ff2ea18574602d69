use Rattle.std.proofs.Common.{length}
use Rattle.tv_session.proofs.freshness.+first_stale_window.Given as goal

abbrev pub decreases-first_stale_window : goal.decreases-first_stale_window
decreases-first_stale_window g l = length l.declared.now
