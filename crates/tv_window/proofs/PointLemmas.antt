-- Whether two points are one, and what a point of a window is.
use Rattle.std.proofs.Common.{◌≡◌, ℤ, pos, ◌+ℤ◌, ◌-ℤ◌, Bool, true, false, not, ◌&&◌, int_le, int_lt, if◌then◌else◌, refl, ap, ◌∙◌, arith}
use Rattle.std.specs.Int.Signed.{le_z, lt_z}
use Rattle.std.specs.Ordering.{int_eq}
use Rattle.std.proofs.lemmas.Bool.{false≢true}
use Rattle.std.proofs.lemmas.Bool.Decides.{Decides-int_eq}
use Rattle.std.proofs.lemmas.Int.{ints}
use Rattle.tv_cells.specs.Layers.{is_in}
use Rattle.tv_cells.specs.declared.rect.Point.{Point}
use Rattle.tv_cells.specs.declared.rect.Rect.{Rect}
use Rattle.tv_cells.proofs.RectangleLemmas.{point_is}
use Rattle.tv_machine.specs.Dialog.Mouse.{is_close_mark}
use Rattle.tv_machine.specs.Session.Desktop.{seen_from}
use Rattle.tv_machine.specs.Session.Dragging.{is_grip, is_same_point}
use Rattle.tv_model.specs.Description.Rectangles.{rect}
use Rattle.tv_window.specs.Desk.{hit_on}
use Rattle.tv_window.specs.Window.{head_of, window_bounds}
use Rattle.tv_window.specs.declared.desk.Hit.TheVariants as hits
use Rattle.tv_window.specs.declared.window.WindowOf.{WindowOf}
use Rattle.tv_window.proofs.MarkLemmas.{on-row}

-- ---- one point

both : (a b : Bool) → (a && b) ≡ true → (a ≡ true) × (b ≡ true)
both true b e = (refl, e)
both false b e = absurd (false≢true e)

pub point-is : (p q : Point) → is_same_point p q ≡ true → p ≡ q
point-is p q e =
    let at = both (int_eq p.x q.x) (int_eq p.y q.y) e in
    point_is p.x p.y q.x q.y ((Decides-int_eq p.x q.x).0 at.0) ((Decides-int_eq p.y q.y).0 at.1)

-- ---- the top row

from-left : (a p : ℤ) → le_z a p ≡ int_le (pos 0) (p -ℤ a)
from-left a p = grind (arith, ints)

to-right : (a w p : ℤ) → lt_z p (a +ℤ w) ≡ int_lt (p -ℤ a) w
to-right a w p = grind (arith, ints)

-- on it, beside the close mark
pub grip-seen : (a p : Point) (w : ℤ) (on mark : Bool) → on ≡ is_in (rect a.x a.y w (pos 1)) p.x p.y → mark ≡ is_close_mark (seen_from a p) → (on && not mark) ≡ is_grip w (seen_from a p)
grip-seen a p w on mark is seen =
    ap (λ b. b && not mark) is
    ∙ (ap (λ b. is_in (rect a.x a.y w (pos 1)) p.x p.y && not b) seen
    ∙ (ap (λ b. ((b && lt_z p.x (a.x +ℤ w)) && (le_z a.y p.y && lt_z p.y (a.y +ℤ pos 1))) && not (is_close_mark (seen_from a p))) (from-left a.x p.x)
    ∙ (ap (λ b. ((int_le (pos 0) (p.x -ℤ a.x) && b) && (le_z a.y p.y && lt_z p.y (a.y +ℤ pos 1))) && not (is_close_mark (seen_from a p))) (to-right a.x w p.x)
    ∙ (ap (λ b. ((int_le (pos 0) (p.x -ℤ a.x) && int_lt (p.x -ℤ a.x) w) && b) && not (is_close_mark (seen_from a p))) (on-row a.y p.y)
    ∙ regroup (int_le (pos 0) (p.x -ℤ a.x) && int_lt (p.x -ℤ a.x) w) (int_eq (p.y -ℤ a.y) (pos 0)) (not (is_close_mark (seen_from a p)))))))
  where
    regroup : (a b c : Bool) → ((a && b) && c) ≡ (a && (b && c))
    regroup true b c = refl
    regroup false b c = refl

-- the width of a rectangle by its sides
pub width-is : (x w : ℤ) → (x +ℤ w) -ℤ x ≡ w
width-is x w = omega (arith, ints)

module _ {V : Type 0} (window : WindowOf V) (p : Point) (bounds : Rect) (is : bounds ≡ window_bounds window) where
  mark-told : (mark : Bool) → mark ≡ is_close_mark (seen_from bounds.a p) → mark ≡ is_close_mark (seen_from window.corner p)
  mark-told mark e = e ∙ ap (λ r. is_close_mark (seen_from r.a p)) is

  grip-told : (grip : Bool) → grip ≡ is_grip (bounds.b.x -ℤ bounds.a.x) (seen_from bounds.a p) → grip ≡ is_grip (head_of window).w (seen_from window.corner p)
  grip-told grip e =
      e ∙ (ap (λ r. is_grip (r.b.x -ℤ r.a.x) (seen_from r.a p)) is ∙ ap (λ w. is_grip w (seen_from window.corner p)) (width-is window.corner.x (head_of window).w))

  -- what a mouse down on it hits, by the two tests
  pub hit-told : (mark grip : Bool) → mark ≡ is_close_mark (seen_from bounds.a p) → grip ≡ is_grip (bounds.b.x -ℤ bounds.a.x) (seen_from bounds.a p)
      → (if mark then hits.CloseMark else if grip then hits.Grip window.corner else hits.Done) ≡ hit_on window p
  hit-told mark grip on_mark on_grip =
      ap (λ b. if b then hits.CloseMark else if grip then hits.Grip window.corner else hits.Done) (mark-told mark on_mark)
      ∙ ap (λ b. if is_close_mark (seen_from window.corner p) then hits.CloseMark else if b then hits.Grip window.corner else hits.Done) (grip-told grip on_grip)
