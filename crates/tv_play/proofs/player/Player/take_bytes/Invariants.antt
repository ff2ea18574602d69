use Rattle.std.proofs.Common.{◌++◌, List, map, take}
use Rattle.tv_machine.specs.Run.{Session}
use Rattle.tv_play.specs.Player.{HasPlayed, HasSame, IsReady}
use Rattle.tv_play.specs.Steps.{Outside}
use Rattle.tv_terminal.specs.Decoding.{Symbol, Byte}
use Rattle.tv_play.proofs.player.Player.take_bytes.Given as goal

abbrev pub invariant-loop-byte : goal.invariant-loop-byte
invariant-loop-byte g l = record {
  same : HasSame l.fn.self l.self;
  ready : IsReady g.L.Stage.stands l.self;
  plays : (s : Session) (symbols : List Symbol) (from : Outside) → HasPlayed g.L.Stage.stands g.T.Writer.seen g.W.Writer.seen g.R.Writer.seen s symbols from l.fn.self
      → HasPlayed g.L.Stage.stands g.T.Writer.seen g.W.Writer.seen g.R.Writer.seen s (symbols ++ map Byte (take l.byte-index l.bytes)) from l.self;
}
