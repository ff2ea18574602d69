use Rattle.std.proofs.Common.{[]}
use Rattle.tv_live.specs.Host.{scene_of}
use Rattle.tv_live.proofs.LivingLemmas.{run-by}
use Rattle.tv_live.proofs.host.Host.live_begun.Goals as goal
use Rattle.tv_play.proofs.PlayLemmas.{come-none}

pub returns-in-Some-clause-runs : goal.returns-in-Some-clause-runs
returns-in-Some-clause-runs g c = λ s runs.
    run-by [] _ _ (scene_of g.T.Writer.seen c.begin.new.self) c.in-Some.outcome (come-none (g.I.Pieces.heard c.args.pieces.now)) (c.in-Some.ensures.begins s runs)

pub returns-in-None-clause-runs : goal.returns-in-None-clause-runs
returns-in-None-clause-runs g c = λ s runs. c.live_on.ensures.runs _ _ s _ (c.in-None.ensures.begins s runs)
