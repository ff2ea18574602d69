use Rattle.std.proofs.Common.{subst, sym}
use Rattle.tv_play.specs.Player.{Hears}
use Rattle.tv_play.proofs.player.Player.take_piece.Goals as goal

pub returns-in-Some-clause-hears : goal.returns-in-Some-clause-hears
returns-in-Some-clause-hears g c =
    subst (λ x. Hears g.L.Stage.stands g.T.Writer.seen g.W.Writer.seen g.R.Writer.seen c.args.self.now c.take_bytes.new.self x c.take_bytes.result) (sym c.in-Some.ensures.bytes) c.take_bytes.ensures.hears

pub returns-in-None-clause-hears : goal.returns-in-None-clause-hears
returns-in-None-clause-hears g c =
    subst (λ x. Hears g.L.Stage.stands g.T.Writer.seen g.W.Writer.seen g.R.Writer.seen c.args.self.now c.take_pause.new.self x c.take_pause.result) (sym c.in-None.ensures.pause) c.take_pause.ensures.hears
