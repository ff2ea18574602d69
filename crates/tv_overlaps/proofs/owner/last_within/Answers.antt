use Rattle.std.proofs.Common.{◌≡◌, ◌<◌, None, get_or, arith, rules}
use Rattle.tv_overlaps.specs.Standing.{IsOwningPane, depth_at}
use Rattle.tv_overlaps.proofs.DepthLemmas.{deeper_past, depth_is, owner_before}
use Rattle.tv_overlaps.proofs.owner.last_within.Goals as goal

pub loop-nearest-preserved : goal.loop-nearest-preserved
loop-nearest-preserved c =
    let place = c.in-Some.earlier in
    let views = c.args.views.now in
    let within : place < c.args.place = search rules in
    let owns : IsOwningPane views place (get_or c.args.owners.now place None) = c.requires.known place (omega (arith, c.requires.room)) in
    let depth : c.index-views-earlier.result.depth ≡ depth_at views place = search (rules, depth_is) in
    let deep : c.args.depth < depth_at views place = search rules in
    (omega (arith, owner_before views place _ owns), deeper_past views c.args.depth place c.args.place _ owns deep (search rules))
