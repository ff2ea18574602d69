use Rattle.std.proofs.Common.{◌≡◌, ◌<◌, ◌||◌, false, None, length, get_or, take, rules, arith, sym, ap, ◌∙◌}
use Rattle.std.specs.List.{list_any}
use Rattle.std.proofs.lemmas.List.{get_or_read}
use Rattle.tv_model.specs.Description.Nodes.{has_id}
use Rattle.tv_model.specs.Description.Panes.{panes_around}
use Rattle.tv_overlaps.specs.Standing.{IsOwningPane}
use Rattle.tv_overlaps.proofs.OwnerLemmas.{panes_are, panes_at}
use Rattle.tv_overlaps.proofs.DepthLemmas.{owner_before}
use Rattle.tv_overlaps.proofs.owner.stands_over.Goals as goal

pub loop-around-preserved : goal.loop-around-preserved
loop-around-preserved c =
    let place = c.in-Some.place in
    let views = c.args.views.now in
    let within : place < length views = search rules in
    let owns : IsOwningPane views place (get_or c.args.owners.now place None) = c.requires.owners.1 place (search rules) in (
      omega (arith, owner_before views place _ owns),
      λ d.
          let other : has_id c.args.target (get_or views place d) ≡ false =
          ap (has_id c.args.target) (sym (get_or_read views place c.index-views-place.result within c.index-views-place.is d)) ∙ search rules in
          ap (list_any (has_id c.args.target)) (sym (panes_are views d place _ within owns))
          ∙ ap (λ b. b || list_any (has_id c.args.target) (panes_around (take place views) (get_or views place d))) (sym other)
          ∙ ap (λ around. list_any (has_id c.args.target) (panes_at views d around)) (sym c.in-Some.is)
          ∙ c.loop-around.invariant.1 d,
    )
