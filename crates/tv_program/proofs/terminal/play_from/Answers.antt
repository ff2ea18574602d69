use Rattle.tv_play.specs.Outputs.{ports_with}
use Rattle.tv_program.specs.Playing.{IsMismade, Makes}
use Rattle.tv_program.proofs.PlayLemmas.{broken-PlaysText, parted-PlaysText, unbegun-PlaysText}
use Rattle.tv_session.specs.Session.{StandsFor}
use Rattle.tv_program.proofs.terminal.play_from.Goals as goal

pub returns-in_err-session-clause-output : goal.returns-in_err-session-clause-output
returns-in_err-session-clause-output g c text read =
    unbegun-PlaysText (IsMismade (Makes g.F.Fn c.args.make.now) g.V.View.meaning) c.args.outputs.now.colours text (ports_with g.T.Writer.seen g.W.Writer.seen g.R.Writer.seen (g.P.Pieces.heard c.args.pieces.now) c.args.outputs.now)
    c.args.checked read c.in_err-session.field-0.0 c.in_err-session.ensures.fault c.from_residual.result c.from_residual.ensures.1

pub returns-in_err-play-clause-output : goal.returns-in_err-play-clause-output
returns-in_err-play-clause-output g c text read =
    broken-PlaysText (IsMismade (Makes g.F.Fn c.args.make.now) g.V.View.meaning) c.args.outputs.now.colours text (ports_with g.T.Writer.seen g.W.Writer.seen g.R.Writer.seen (g.P.Pieces.heard c.args.pieces.now) c.args.outputs.now)
    c.args.checked read (ports_with g.T.Writer.seen g.W.Writer.seen g.R.Writer.seen (g.P.Pieces.heard c.play.new.pieces) c.play.new.outputs) (StandsFor g.V.View.meaning c.play.new.stage) c.in_err-play.field-0.0
    (c.in_err-play.ensures.plays _ c.in_ok-session.ensures.start) c.from_residual-in_err-play.result c.from_residual-in_err-play.ensures.1

pub returns-clause-output : goal.returns-clause-output
returns-clause-output g c text read =
    parted-PlaysText (IsMismade (Makes g.F.Fn c.args.make.now) g.V.View.meaning) c.args.outputs.now.colours text (ports_with g.T.Writer.seen g.W.Writer.seen g.R.Writer.seen (g.P.Pieces.heard c.args.pieces.now) c.args.outputs.now)
    c.args.checked read (ports_with g.T.Writer.seen g.W.Writer.seen g.R.Writer.seen (g.P.Pieces.heard c.play.new.pieces) c.play.new.outputs) (StandsFor g.V.View.meaning c.play.new.stage) c.in_ok-play.field-0
    (c.in_ok-play.ensures.plays _ c.in_ok-session.ensures.start)
