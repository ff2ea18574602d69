use Rattle.std.proofs.Common.{take}
use Rattle.tv_io.specs.Pen.{Puts}
use Rattle.tv_ways.specs.Listing.{ways_text}
use Rattle.tv_ways.proofs.listing.put_ways.Given as goal

abbrev pub invariant-loop-found : goal.invariant-loop-found
invariant-loop-found g l = Puts g.W.Writer.seen l.fn.pen l.pen (ways_text l.desc (take l.found-index l.all))
