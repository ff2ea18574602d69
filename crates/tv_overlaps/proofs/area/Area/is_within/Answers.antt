use Rattle.std.proofs.Common.{rules}
use Rattle.tv_overlaps.proofs.AreaLemmas.{within_points}
use Rattle.tv_overlaps.proofs.area.Area.is_within.Goals as goal

pub returns-then-not-has_points-clause-points : goal.returns-then-not-has_points-clause-points
returns-then-not-has_points-clause-points c = within_points _ c.args.self.now c.args.other.now (search rules)

pub returns-then-covers-clause-points : goal.returns-then-covers-clause-points
returns-then-covers-clause-points c = within_points _ c.args.self.now c.args.other.now (search rules)

pub returns-else-covers-clause-points : goal.returns-else-covers-clause-points
returns-else-covers-clause-points c = within_points _ c.args.self.now c.args.other.now (search rules)
