use Rattle.std.proofs.Common.{[], encode_utf8, flat_map, take}
use Rattle.tv_io.specs.Pen.{PutsPart}
use Rattle.tv_io.proofs.pen.Pen.put_chars.Given as goal

abbrev pub invariant-loop-ch : goal.invariant-loop-ch
invariant-loop-ch g l = PutsPart g.W.Writer.seen l.fn.self l.self [] (flat_map encode_utf8 (take l.ch-index l.chars)) l.waiting.items
