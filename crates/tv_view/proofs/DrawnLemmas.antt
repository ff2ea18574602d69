-- What is drawn after something else, and where.
use Rattle.std.proofs.Common.{◌≡◌, ◌∙◌, ℕ, ℤ, ap, ◌+ℤ◌, List, [], ◌∷◌, ◌++◌, arith, subst, sym, append_assoc, Option, refl}
use Rattle.std.proofs.lemmas.Int.{ints}
use Rattle.tv_cells.specs.Canvas.{sub}
use Rattle.tv_cells.specs.Layers.{Layer, Painted, Shows, Lays}
use Rattle.tv_cells.specs.Picture.{Picture, IsAlike}
use Rattle.tv_cells.specs.Rectangle.{IsNear, IsPointNear}
use Rattle.tv_cells.specs.Sheets.{inlaid}
use Rattle.tv_cells.specs.declared.rect.Rect.{Rect}
use Rattle.tv_cells.specs.declared.canvas.Canvas.{Canvas}
use Rattle.tv_model.specs.Screen.Faces.{FrameLook, frame_face}
use Rattle.tv_model.specs.Description.Rectangles.{IsSmall, IsSmallRect}

-- one layer, and then layers on top of it
pub lays_onto : (upper : List Layer) (layer : Layer) (old mid new : Picture) → IsAlike old mid → ((layers : List Layer) → Shows layers old → Shows (layer ∷ layers) mid) → Lays upper mid new → Lays (upper ++ layer ∷ []) old new
lays_onto upper layer old mid new alike shows lays = record {
  size = record { width = lays.size.width ∙ alike.width; height = lays.size.height ∙ alike.height };
  shows = λ below shown. subst (λ layers. Shows layers new) (sym (append_assoc upper (layer ∷ []) below)) (lays.shows (layer ∷ below) (shows below shown));
}

-- two small coordinates have a near sum
near_sum : (a b : ℤ) → IsSmall a → IsSmall b → IsNear (a +ℤ b)
near_sum a b small also = record { low = omega (arith, ints, small.low, also.low); high = omega (arith, ints, small.high, also.high) }

-- a small rectangle is seen from a small origin with its corner near
pub near_corner : (c : Canvas) (r : Rect) → IsSmall c.origin.x × IsSmall c.origin.y → IsSmallRect r → IsPointNear (sub c r).origin
near_corner c r small rect = record { x = near_sum r.a.x c.origin.x rect.left small.0; y = near_sum r.a.y c.origin.y rect.top small.1 }

-- the same frame with the same sheet in the same place
pub frame_is : (c d : Canvas) (w v h g : ℕ) (t u : List ℕ) (k l : FrameLook) (s r : Option Picture) → c ≡ d → w ≡ v → h ≡ g → t ≡ u → k ≡ l → s ≡ r
    → Painted c w h (inlaid s w h (frame_face w h t k)) ≡ Painted d v g (inlaid r v g (frame_face v g u l))
frame_is c d w v h g t u k l s r place width height title look sheet = rw (place, width, height, title, look, sheet) refl
