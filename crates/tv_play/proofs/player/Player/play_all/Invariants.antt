use Rattle.std.proofs.Common.{◌≤◌, [], List, length}
use Rattle.tv_machine.specs.Run.{Session}
use Rattle.tv_play.specs.Pieces.{HasCome}
use Rattle.tv_play.specs.Player.{HasPlayed, HasSame, IsReady}
use Rattle.tv_play.specs.Steps.{Outside}
use Rattle.tv_terminal.specs.Decoding.{Symbol}
use Rattle.tv_play.proofs.player.Player.play_all.Given as goal

abbrev pub invariant-loop-turn : goal.invariant-loop-turn
invariant-loop-turn g l = record {
  same : HasSame l.fn.self l.self;
  ready : IsReady g.L.Stage.stands l.self;
  symbols : List Symbol;
  many : l.turn ≤ length symbols;
  came : HasCome (g.P.Pieces.heard l.fn.pieces) (g.P.Pieces.heard l.pieces) symbols;
  plays : (s : Session) (from : Outside) → HasPlayed g.L.Stage.stands g.T.Writer.seen g.W.Writer.seen g.R.Writer.seen s [] from l.fn.self
      → HasPlayed g.L.Stage.stands g.T.Writer.seen g.W.Writer.seen g.R.Writer.seen s symbols from l.self;
}
