use Rattle.std.proofs.Common.{◌≡◌, ◌<◌, ◌++◌, List, [], ◌∷◌, None, length, map, get_or, rules, arith, append_assoc, sym, ap, ◌∙◌}
use Rattle.std.proofs.lemmas.List.{get_or_default}
use Rattle.tv_model.specs.declared.node.Id.{Id}
use Rattle.tv_model.specs.declared.node.Node.{Node}
use Rattle.tv_overlaps.specs.Standing.{IsOwningPane}
use Rattle.tv_overlaps.proofs.OwnerLemmas.{panes_are, panes_at}
use Rattle.tv_overlaps.proofs.DepthLemmas.{owner_before}
use Rattle.tv_names.proofs.sharing.standing.Goals as goal

pub loop-around-preserved : goal.loop-around-preserved
loop-around-preserved c =
    let place = c.in-Some.place in
    let views = c.args.views.now in
    let ids : List Id = c.loop-around.ids.items in
    let within : place < length views = search rules in
    let owns : IsOwningPane views place (get_or c.args.owners.now place None) = c.requires.owners.1 place (search rules) in (
      omega (arith, owner_before views place _ owns),
      λ d.
          let id_of : Node → Id = λ pane. pane.id in
          let read : Node = get_or views place c.index-views-place.result in
          let same : read ≡ get_or views place d = get_or_default views place c.index-views-place.result d within in
          ap (λ list. list ++ map id_of (panes_at views d (get_or c.args.owners.now place None))) c.in_ok-push.ensures.items
          ∙ append_assoc ids (read.id ∷ []) (map id_of (panes_at views d (get_or c.args.owners.now place None)))
          ∙ ap (λ (own : Node). ids ++ own.id ∷ map id_of (panes_at views d (get_or c.args.owners.now place None))) same
          ∙ ap (λ panes. ids ++ (get_or views place d).id ∷ map id_of panes) (sym (panes_are views d place _ within owns))
          ∙ ap (λ around. ids ++ map id_of (panes_at views d around)) (sym c.in-Some.is)
          ∙ c.loop-around.invariant.1 d,
    )
