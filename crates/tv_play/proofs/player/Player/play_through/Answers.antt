use Rattle.std.proofs.Common.{refl, ◌∙◌}
use Rattle.tv_play.proofs.PlayLemmas.{plays-broken, plays-parted, shown-before, unread}
use Rattle.tv_play.proofs.player.Player.play_through.Goals as goal

pub returns-in-Ok-clause-same : goal.returns-in-Ok-clause-same
returns-in-Ok-clause-same g c =
    let same = c.play_begun-outcome.ensures.same in
    record { stage = same.stage; screen = c.end.ensures.same ∙ same.screen; log = same.log; tape = c.pass_on.ensures.puts.same ∙ same.tape }

pub returns-in-Ok-clause-plays : goal.returns-in-Ok-clause-plays
returns-in-Ok-clause-plays g c = λ s stands.
    plays-parted s (g.P.Pieces.heard c.args.pieces.now) (g.P.Pieces.heard c.play_begun-outcome.new.pieces) _ _ _ c.end.new.pen.stopped (g.L.Stage.stands c.play_begun-outcome.new.self.stage.now)
    c.end.ensures.put c.end.ensures.stopped c.end.ensures.passed _ _ _ c.in-Ok.parting c.pass_on-passed.result c.told_with.result c.told_with.ensures
    (c.in-Ok.ensures.runs s stands) c.pass_on-passed.ensures c.pass_on.ensures.puts.how c.pass_on.ensures.none

pub returns-in-Err-clause-same : goal.returns-in-Err-clause-same
returns-in-Err-clause-same g c =
    let same = c.play_begun-outcome.ensures.same in
    record { stage = same.stage; screen = c.end.ensures.same ∙ same.screen; log = same.log; tape = same.tape }

pub returns-in-Err-clause-plays : goal.returns-in-Err-clause-plays
returns-in-Err-clause-plays g c = λ s stands.
    plays-broken s (g.P.Pieces.heard c.args.pieces.now) (g.P.Pieces.heard c.play_begun-outcome.new.pieces) _ _ _ c.end.new.pen.stopped (g.L.Stage.stands c.play_begun-outcome.new.self.stage.now)
    c.end.ensures.put c.end.ensures.stopped c.end.ensures.passed c.in-Err.fault (c.in-Err.ensures.runs s stands)

pub returns-in-Ok-clause-passed : goal.returns-in-Ok-clause-passed
returns-in-Ok-clause-passed g c = unread g.T.Writer.seen _ _ c.in-Ok.parting c.pass_on-passed.result _ _ c.told_with.result c.told_with.ensures

pub returns-in-Err-clause-passed : goal.returns-in-Err-clause-passed
returns-in-Err-clause-passed g c =
    let staged = c.requires.ready.staged in
    shown-before staged.session (g.P.Pieces.heard c.args.pieces.now) (g.P.Pieces.heard c.play_begun-outcome.new.pieces) _ _ _ c.end.new.pen.stopped (g.L.Stage.stands c.play_begun-outcome.new.self.stage.now)
    c.end.ensures.put c.end.ensures.stopped c.end.ensures.passed g.T.Writer.seen c.play_begun-outcome.new.self.pen.out.now refl c.in-Err.fault (c.in-Err.ensures.runs staged.session staged.here)
