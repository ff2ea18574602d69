use Rattle.std.proofs.Common.{◌≡◌, ◌+◌, ◌<◌, ◌++◌, ◌∷◌, [], length, map, take, drop, rules, ap, ◌∙◌}
use Rattle.tv_model.specs.Faults.Lines.{after_seen}
use Rattle.tv_model.specs.Faults.Places.{is_outside}
use Rattle.tv_model.proofs.RemainingLemmas.{each_more}
use Rattle.tv_overlaps.proofs.outside.are_outside.Goals as goal

pub loop-place-preserved : goal.loop-place-preserved
loop-place-preserved c =
    let pushed : c.push.new.self.items ≡ c.loop-place.outside.items ++ c.is_outside.result ∷ [] = search rules in
    let less : c.loop-place.place < length c.args.views.now = search rules in
    ap (λ list. list ++ map (λ pair. is_outside c.args.frame.now pair.0 pair.1) (after_seen (take (c.loop-place.place + 1) c.args.views.now) (drop (c.loop-place.place + 1) c.args.views.now))) pushed
    ∙ each_more (λ pair. is_outside c.args.frame.now pair.0 pair.1) c.args.views.now c.loop-place.place c.loop-place.outside.items _ c.is_outside.result less c.loop-place.invariant c.is_outside.ensures
