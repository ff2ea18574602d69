use Rattle.std.proofs.Common.{◌≡◌, refl, arith}
use Rattle.std.proofs.lemmas.Int.{ints}
use Rattle.tv_cells.specs.Canvas.{IsInArea}
use Rattle.tv_cells.specs.Picture.{IsOn}
use Rattle.tv_cells.proofs.ChangeLemmas.{changes_along}
use Rattle.tv_cells.proofs.RowLemmas.{changes_next, changes_start, shows_row, shows_copied}
use Rattle.tv_cells.proofs.face.paint.Goals.{then-row-area+then-repeats, else-row-area}
use Rattle.tv_cells.proofs.face.paint.Goals as goal

pub loop-row-init : goal.loop-row-init
loop-row-init g c = changes_start c.face_area-area.result

pub paint_row-requires-clause-across : goal.paint_row-requires-clause-across
paint_row-requires-clause-across g c = let same = c.loop-row.invariant.size.width in (omega arith, omega arith)

pub paint_row-requires-clause-down : goal.paint_row-requires-clause-down
paint_row-requires-clause-down g c = let same = c.loop-row.invariant.size.height in omega arith

pub loop-row-preserved : goal.loop-row-preserved
loop-row-preserved g c = elim c.if-row-area.branch [
  | then-row-area+then-repeats w ↦
      rw w.screen-is (changes_next c.face_area-area.result c.loop-row.row (omega arith) c.loop-row.invariant
      (shows_copied (g.F.Face.face c.args.face.now) c.args.canvas.origin.x c.args.canvas.origin.y c.face_area-area.result c.loop-row.row c.distance-y.result
      w.if-row-area.true c.distance-y.ensures (w.if-repeats.ensures refl) c.loop-row.invariant w.copy_row_above.ensures))
  | else-row-area w ↦
      rw w.screen-is (changes_next c.face_area-area.result c.loop-row.row (omega arith) c.loop-row.invariant
      (shows_row (g.F.Face.face c.args.face.now) c.args.canvas.origin.x c.args.canvas.origin.y c.face_area-area.result.left c.face_area-area.result.right c.loop-row.row c.distance-from.result c.distance-y.result
      (λ on some.
      let place : IsOn c.args.screen.now c.face_area-area.result.left c.loop-row.row = record { across = rw (← c.loop-row.invariant.size.width) on.across; down = rw (← c.loop-row.invariant.size.height) on.down } in
      let first : IsInArea c.face_area-area.result c.face_area-area.result.left c.loop-row.row = record { left = omega arith; right = some; top = omega arith; bottom = omega arith } in
      let covered = (c.face_area-area.ensures.places c.face_area-area.result.left c.loop-row.row place).0 first in
      omega (arith, ints, covered.rect.after_left))
      c.distance-from.ensures c.distance-y.ensures w.paint_row.ensures))
]

pub returns : goal.returns
returns g c =
    let end : c.loop-row.row ≡ c.face_area-area.result.bottom = omega arith in
    changes_along
    (λ column row on here. (c.face_area-area.ensures.places column row on).0 (rw (← end) here))
    (λ column row on here. rw end ((c.face_area-area.ensures.places column row on).1 here))
    c.loop-row.invariant
