use Rattle.std.proofs.Common.{◌≡◌, ◌≤◌, [], List, false, length}
use Rattle.tv_io.specs.Writer.{Seen}
use Rattle.tv_live.specs.Course.{causes_of, symbols_in_all}
use Rattle.tv_live.specs.Host.{HasSame, IsLiving, IsReady, scene_of}
use Rattle.tv_live.proofs.host.Host.live_on.Given as goal
use Rattle.tv_machine.specs.Run.{Session}
use Rattle.tv_play.specs.Pieces.{HasCome}
use Rattle.tv_terminal.specs.Decoding.{Symbol, between, left_after}
use Rattle.tv_terminal.specs.declared.colour.Colours.{Colours}

abbrev pub invariant-loop-turn : goal.invariant-loop-turn
invariant-loop-turn g l = record {
  same : HasSame l.fn.self l.self;
  ready : IsReady (scene_of g.T.Writer.seen l.self);
  pieces : List (List Symbol);
  many : l.turn ≤ length (symbols_in_all pieces);
  came : HasCome (g.I.Pieces.heard l.fn.pieces) (g.I.Pieces.heard l.pieces) (symbols_in_all pieces);
  read : l.self.decoder ≡ left_after (between false) (symbols_in_all pieces);
  lives : (colours : Colours) (program : g.row.P.Denot) (s : Session) (from : Seen) → IsLiving g.P.Program.makes colours program s from (causes_of []) (scene_of g.T.Writer.seen l.fn.self)
      → IsLiving g.P.Program.makes colours program s from (causes_of pieces) (scene_of g.T.Writer.seen l.self);
}
