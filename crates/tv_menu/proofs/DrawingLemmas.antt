-- Layers that are drawn for the machine's.
use Rattle.std.proofs.Common.{◌≡◌, ◌∙◌, ℕ, ℤ, pos, ◌+ℤ◌, ◌-ℤ◌, Bool, List, [], ◌∷◌, All, ap, subst, arith}
use Rattle.std.specs.Prelude.{if◌then◌else◌}
use Rattle.std.proofs.lemmas.Int.{ints}
use Rattle.std.specs.Int.{int_gap}
use Rattle.tv_cells.specs.Glyph.{Glyph}
use Rattle.tv_cells.specs.Layers.{Layer, Painted, Shadow, Shows, covers, Lays, ShowsSame}
use Rattle.tv_cells.specs.Picture.{Picture, IsAlike}
use Rattle.tv_cells.specs.Rectangle.{cut, shifted_point, sized}
use Rattle.tv_cells.specs.Repainting.{clipped, within}
use Rattle.tv_cells.specs.declared.canvas.Canvas.{Canvas}
use Rattle.tv_cells.specs.declared.rect.Point.{Point}
use Rattle.tv_cells.specs.declared.rect.Rect.{Rect}
use Rattle.tv_cells.proofs.RectangleLemmas.{point_is}
use Rattle.tv_model.specs.declared.desc.Desc.{Desc}
use Rattle.tv_model.specs.declared.desc.StatusItem.{StatusItem}
use Rattle.tv_model.specs.Description.Numbers.{natural}
use Rattle.tv_machine.specs.Screen.Bodies.{canvas_at, whole_screen}
use Rattle.tv_machine.specs.State.{State}
use Rattle.tv_machine.specs.Screen.Bars.{spot_in, status_cell, status_face, status_text}
use Rattle.tv_machine.specs.Screen.Layers.{status_layer}
use Rattle.tv_machine.specs.Session.Step.{is_item_enabled}
use Rattle.tv_view.proofs.SameLayerLemmas.{lays_same}
use Rattle.tv_menu.specs.Cells.{is_item_in}
use Rattle.tv_menu.specs.Lawful.{IsLawfulStatusItem}
use Rattle.tv_menu.specs.Line.{AreEnabled}
use Rattle.tv_menu.proofs.FaceLemmas.{enabled_same, items_same}

-- one layer
pub lays_one : (layer : Layer) (old new : Picture) → IsAlike old new → ((layers : List Layer) → Shows layers old → Shows (layer ∷ layers) new) → Lays (layer ∷ []) old new
lays_one layer old new alike shows = record { size = alike; shows = λ below shown. shows below shown }

-- a box over its shadow
pub box_laid : (canvas : Canvas) (face : ℕ → ℕ → Glyph) (columns rows width height : ℕ) (bounds : Rect) (old mid new : Picture)
    → width ≡ columns → height ≡ rows → bounds ≡ sized width height
    → IsAlike old mid → ((layers : List Layer) → Shows layers old → Shows (Shadow canvas bounds ∷ layers) mid)
    → IsAlike mid new → ((layers : List Layer) → Shows layers mid → Shows (Painted canvas width height face ∷ layers) new)
    → Lays (Painted canvas columns rows face ∷ Shadow canvas (sized columns rows) ∷ []) old new
box_laid canvas face columns rows width height bounds old mid new wide high same alike below also above =
    rw (← wide, ← high, ← same) (record {
      size = record { width = also.width ∙ alike.width; height = also.height ∙ alike.height };
      shows = λ layers shown. above (Shadow canvas bounds ∷ layers) (below layers shown);
    })

-- a face that shows the same
pub face_same : (c : Canvas) (width height : ℕ) (face other : ℕ → ℕ → Glyph) → ((x y : ℕ) → face x y ≡ other x y) → ShowsSame (Painted c width height face ∷ []) (Painted c width height other ∷ [])
face_same c width height face other same = record {
  each = λ column row under.
      ap (λ cell. if covers c (sized width height) column row then cell else under) (same (int_gap c.origin.x (pos column)) (int_gap c.origin.y (pos row)));
}

-- ---- an origin in the corner of the screen that is moved

from_corner : (z : ℤ) → (pos 0 +ℤ z) ≡ z
from_corner z = omega (arith, ints)

moved_corner : (clip : Rect) (canvas place : Canvas) (by : Point) → canvas ≡ canvas_at clip (pos 0) (pos 0) → place ≡ record { clip = canvas.clip; origin = shifted_point canvas.origin by }
    → place ≡ canvas_at clip by.x by.y
moved_corner clip canvas place by is moved =
    moved ∙ (ap (λ c. record { clip = c.clip; origin = shifted_point c.origin by }) is
    ∙ ap (λ origin. record { clip = clip; origin = origin }) (point_is _ _ _ _ (from_corner by.x) (from_corner by.y)))

-- ---- the status line

-- the layer of a face that asks a set for what is enabled now is the machine's, cut by what cuts the canvas
pub status_drawn : (d : Desc) (s : State) (r : Rect) (enabled : List Bool) (items : List StatusItem) (width : ℕ) (canvas place : Canvas) (by : Point) (old new : Picture)
    → items ≡ d.status → width ≡ natural d.width → AreEnabled d s enabled → All IsLawfulStatusItem items
    → canvas ≡ within r (canvas_at (whole_screen d) (pos 0) (pos 0)) → by ≡ record { x = pos 0; y = d.height -ℤ pos 1 } → place ≡ record { clip = canvas.clip; origin = shifted_point canvas.origin by }
    → IsAlike old new → ((layers : List Layer) → Shows layers old → Shows (Painted place width 1 (λ x y. status_cell (is_item_in enabled) (spot_in status_text 0 0 items x)) ∷ layers) new)
    → Lays (clipped r (status_layer d s) ∷ []) old new
status_drawn d s r enabled items width canvas place by old new same wide are lawful seen corner moved alike shows =
    lays_same (Painted (there d) (natural d.width) 1 (face d.status) ∷ []) (clipped r (status_layer d s) ∷ []) old new
    (face_same (there d) (natural d.width) 1 (face d.status) (status_face d (is_item_enabled d s))
    (λ x y. items_same (is_item_in enabled) (is_item_enabled d s) 0 0 x d.status (enabled_same d s enabled are d.status (subst (All IsLawfulStatusItem) same lawful))))
    (subst (λ xs. Lays (Painted (there d) (natural d.width) 1 (face xs) ∷ []) old new) same
    (subst (λ w. Lays (Painted (there d) w 1 (face items) ∷ []) old new) wide
    (subst (λ c. Lays (Painted c width 1 (face items) ∷ []) old new) (moved_corner (cut r (whole_screen d)) canvas place by seen moved ∙ ap (λ p. canvas_at (cut r (whole_screen d)) p.x p.y) corner)
    (lays_one (Painted place width 1 (face items)) old new alike shows))))
  where
    there : Desc → Canvas
    there e = within r (canvas_at (whole_screen e) (pos 0) (e.height -ℤ pos 1))

    face : List StatusItem → ℕ → ℕ → Glyph
    face xs x y = status_cell (is_item_in enabled) (spot_in status_text 0 0 xs x)
