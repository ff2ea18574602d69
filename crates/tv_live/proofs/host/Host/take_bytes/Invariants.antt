use Rattle.std.proofs.Common.{◌≡◌, None, map, take}
use Rattle.tv_live.specs.Course.{Does}
use Rattle.tv_live.specs.Host.{HasSame, IsReady, SeesTo, scene_of}
use Rattle.tv_live.proofs.host.Host.take_bytes.Given as goal
use Rattle.tv_terminal.specs.Decoding.{Byte, decode_after, left_after}

abbrev pub invariant-loop-byte : goal.invariant-loop-byte
invariant-loop-byte g l = record {
  same : HasSame l.fn.self l.self;
  ready : IsReady (scene_of g.T.Writer.seen l.self);
  read : l.self.decoder ≡ left_after l.fn.self.decoder (map Byte (take l.byte-index l.bytes));
  sees : SeesTo g.P.Program.makes (scene_of g.T.Writer.seen l.fn.self) (scene_of g.T.Writer.seen l.self) (map Does (decode_after l.fn.self.decoder (map Byte (take l.byte-index l.bytes)))) None;
}
