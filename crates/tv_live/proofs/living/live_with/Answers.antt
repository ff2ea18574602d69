use Rattle.std.proofs.Common.{ap, rules}
use Rattle.tv_live.proofs.LivingLemmas.{lives-lent}
use Rattle.tv_live.proofs.living.live_with.Goals as goal
use Rattle.tv_play.proofs.PlayLemmas.{shown-lent}

pub returns-clause-lives : goal.returns-clause-lives
returns-clause-lives g c = λ s runs.
    let same = c.live_through.ensures.same in
    lives-lent _ _ _ _ _ _ _ _ c.live_through.result (search (rules, same.app)) (search (rules, same.program)) (ap g.T.Writer.seen (search (rules, same.screen))) (c.live_through.ensures.lives s runs)

pub returns-clause-passed : goal.returns-clause-passed
returns-clause-passed g c =
    let same = c.live_through.ensures.same in
    shown-lent g.T.Writer.seen _ _ _ c.live_through.result (ap g.T.Writer.seen (search (rules, same.screen))) c.live_through.ensures.passed
