use Rattle.std.proofs.Common.{ap}
use Rattle.tv_io.proofs.PenLemmas.{Puts-along, Puts-more}
use Rattle.tv_ways.specs.Listing.{way_line}
use Rattle.tv_ways.proofs.listing.put_lines.Goals as goal

pub loop-way-preserved : goal.loop-way-preserved
loop-way-preserved g c =
    Puts-more (way_line c.args.desc.now) c.args.ways.now c.loop-way.way-index c.way-item.result c.loop-way-test.true c.loop-way.invariant
    (Puts-along (ap (way_line c.args.desc.now) c.way-item.is) c.put_line.ensures)
