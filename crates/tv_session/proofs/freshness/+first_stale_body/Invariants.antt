use Rattle.std.proofs.Common.{length}
use Rattle.tv_session.proofs.freshness.+first_stale_body.Given as goal

abbrev pub decreases-first_stale_body : goal.decreases-first_stale_body
decreases-first_stale_body g l = length l.declared.now
