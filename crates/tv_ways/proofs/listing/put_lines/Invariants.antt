use Rattle.std.proofs.Common.{take}
use Rattle.std.specs.Prelude.{flat_map}
use Rattle.tv_io.specs.Pen.{Puts}
use Rattle.tv_ways.specs.Listing.{way_line}
use Rattle.tv_ways.proofs.listing.put_lines.Given as goal

abbrev pub invariant-loop-way : goal.invariant-loop-way
invariant-loop-way g l = Puts g.W.Writer.seen l.fn.pen l.pen (flat_map (way_line l.desc) (take l.way-index l.ways))
