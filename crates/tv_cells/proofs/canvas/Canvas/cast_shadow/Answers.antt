use Rattle.std.proofs.Common.{◌≡◌, ap, arith, pos, ◌+ℤ◌}
use Rattle.std.proofs.lemmas.Int.{ints, clamps}
use Rattle.tv_cells.specs.declared.rect.Rect.{Rect}
use Rattle.tv_cells.proofs.ShadowLemmas.{changes_shadow}
use Rattle.tv_cells.proofs.RectangleLemmas.{point_is, rect_is}
use Rattle.tv_cells.proofs.canvas.Canvas.cast_shadow.Goals as goal

pub returns : goal.returns
returns c =
    let moved = c.shift-moved.ensures.corners in
    let left : c.shift-moved.result.a.x ≡ (c.args.rect.a.x +ℤ pos 2) = ap (λ (m : Rect). m.a.x) moved in
    let top : c.shift-moved.result.a.y ≡ (c.args.rect.a.y +ℤ pos 1) = ap (λ (m : Rect). m.a.y) moved in
    let bottom : c.shift-moved.result.b.y ≡ (c.args.rect.b.y +ℤ pos 1) = ap (λ (m : Rect). m.b.y) moved in
    changes_shadow c.args.rect
    (rect_is _ _ _ _ (point_is _ _ _ _ (omega (arith, ints, clamps)) (omega (arith, ints))) (ap (λ (m : Rect). m.b) moved))
    (rect_is _ _ _ _ (point_is _ _ _ _ (omega (arith, ints)) (omega (arith, ints, clamps))) (point_is _ _ _ _ (omega (arith, ints, clamps)) (omega (arith, ints))))
    c.shade.ensures c.shade-2.ensures
