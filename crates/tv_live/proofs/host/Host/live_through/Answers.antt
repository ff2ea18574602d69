use Rattle.std.proofs.Common.{refl}
use Rattle.tv_live.specs.Host.{scene_of}
use Rattle.tv_live.proofs.LivingLemmas.{lives, shown-before}
use Rattle.tv_live.proofs.host.Host.live_through.Goals as goal

pub returns-clause-lives : goal.returns-clause-lives
returns-clause-lives g c = λ s runs.
    let host = c.live_begun-outcome.new.self in
    lives (g.I.Pieces.heard c.args.pieces.now) (g.I.Pieces.heard c.live_begun-outcome.new.pieces) (scene_of g.T.Writer.seen c.args.self.now) (scene_of g.T.Writer.seen host) _ _ c.end.new.pen.stopped c.pass_on.new.self.stopped c.live_begun-outcome.result _
    (c.live_begun-outcome.ensures.runs s runs) c.end.ensures.puts.how c.pass_on.ensures.puts.how c.pass_on.ensures.none c.told_with.ensures

pub returns-clause-passed : goal.returns-clause-passed
returns-clause-passed g c =
    let set = c.requires.ready.set in
    let host = c.live_begun-outcome.new.self in
    shown-before g.T.Writer.seen host.pen.out.now (g.I.Pieces.heard c.args.pieces.now) (g.I.Pieces.heard c.live_begun-outcome.new.pieces) (scene_of g.T.Writer.seen c.args.self.now) (scene_of g.T.Writer.seen host) _ _ c.end.new.pen.stopped c.pass_on.new.self.stopped c.live_begun-outcome.result _
    refl (c.live_begun-outcome.ensures.runs set.session set.here) c.end.ensures.puts.how c.pass_on.ensures.puts.how c.pass_on.ensures.none c.told_with.ensures
