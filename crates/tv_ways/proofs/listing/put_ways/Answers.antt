use Rattle.std.proofs.Common.{ap}
use Rattle.tv_io.proofs.PenLemmas.{Puts-along, Puts-more}
use Rattle.tv_ways.specs.Listing.{dialog_lines}
use Rattle.tv_ways.proofs.listing.put_ways.Goals as goal

pub loop-found-preserved : goal.loop-found-preserved
loop-found-preserved g c =
    Puts-more (dialog_lines c.args.desc.now) c.args.all.now c.loop-found.found-index c.found-item.result c.loop-found-test.true c.loop-found.invariant
    (Puts-along (ap (dialog_lines c.args.desc.now) c.found-item.is) c.put_dialog.ensures)
