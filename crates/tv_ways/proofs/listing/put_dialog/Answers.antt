use Rattle.std.proofs.Common.{ap, flat_map}
use Rattle.tv_io.proofs.PenLemmas.{Puts-along, Puts-then}
use Rattle.tv_ways.specs.Listing.{way_line}
use Rattle.tv_ways.proofs.listing.put_dialog.Goals as goal

pub returns : goal.returns
returns g c =
    let lines = Puts-along (ap (flat_map (way_line c.args.desc.now)) c.as_slice.ensures.value) c.put_lines.ensures in
    Puts-then (Puts-then (Puts-then c.put.ensures c.put_name.ensures) c.put-2.ensures) lines
