use Rattle.std.proofs.Common.{◌≡◌, ◌+◌, ◌++◌, get_or, drop, sym, ap, ◌∙◌}
use Rattle.std.specs.List.{zip}
use Rattle.tv_model.specs.Description.Rectangles.{has_points, place_of_node}
use Rattle.tv_overlaps.specs.Placing.{placed_from}
use Rattle.tv_overlaps.proofs.PlacedLemmas.{item_is, placed_all, placed_with, placed_without}
use Rattle.tv_overlaps.proofs.overlap.placed.Goals as goal
use Rattle.tv_overlaps.proofs.overlap.placed.Goals.{then-has_points+in_ok-push, else-has_points}

pub loop-place-preserved : goal.loop-place-preserved
loop-place-preserved c =
    let owners = c.args.owners.now in let views = c.args.views.now in let i = c.loop-place.place in let view = c.index-views-place.result in
    let found = c.loop-place.items.items in let all = placed_from 0 (zip owners views) in
    let has : has_points (place_of_node view) ≡ c.has_points.result = ap has_points (sym c.of_node-area.ensures) ∙ sym c.has_points.ensures in
    elim c.if-has_points.branch [
      | then-has_points+in_ok-push w ↦
          ap (λ list. list.items ++ placed_from (i + 1) (drop (i + 1) (zip owners views))) w.items-is
          ∙ ap (λ list. list ++ placed_from (i + 1) (drop (i + 1) (zip owners views))) w.in_ok-push.ensures.items
          ∙ placed_with owners views i view found all _ c.loop-place-test.true c.requires c.index-views-place.is (has ∙ w.if-has_points.true)
          (item_is i (get_or owners i 0) view c.of_node-area.result w.rows.result w.columns.result w.weight.result c.of_node-area.ensures w.rows.ensures w.columns.ensures w.weight.ensures) c.loop-place.invariant
      | else-has_points w ↦
          ap (λ list. list.items ++ placed_from (i + 1) (drop (i + 1) (zip owners views))) w.items-is
          ∙ placed_without owners views i view found all c.loop-place-test.true c.requires c.index-views-place.is (has ∙ w.if-has_points.false) c.loop-place.invariant
    ]

pub returns : goal.returns
returns c = placed_all c.args.owners.now c.args.views.now c.loop-place.place c.loop-place.items.items (placed_from 0 (zip c.args.owners.now c.args.views.now)) c.loop-place-test.false c.loop-place.invariant
