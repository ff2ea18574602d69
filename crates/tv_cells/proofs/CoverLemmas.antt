-- The area of the screen that a rectangle of a canvas covers.
use Rattle.std.proofs.Common.{◌≡◌, ◌↔◌, ℕ, ℤ, pos, ◌+ℤ◌, ◌≤ℤ◌, ◌<ℤ◌}
use Rattle.tv_cells.specs.Glyph.{Glyph}
use Rattle.tv_cells.specs.Rectangle.{IsIn}
use Rattle.tv_cells.specs.Picture.{Picture, IsOn, Changes}
use Rattle.tv_cells.specs.Canvas.{Covers, IsInArea}
use Rattle.tv_cells.specs.declared.canvas.Area.{Area}
use Rattle.tv_cells.specs.declared.canvas.Canvas.{Canvas}
use Rattle.tv_cells.specs.declared.rect.Rect.{Rect}
use Rattle.tv_cells.proofs.RowLemmas.{rows_before}
use Rattle.tv_cells.proofs.ChangeLemmas.{changes_along}

-- an area has the places of the screen that lie in a clip and between two corners
pub record Spans (p : Picture) (clip : Rect) (left top right bottom : ℤ) (area : Area) : Type 0 where
  pub places : (column row : ℕ) → IsOn p column row → IsInArea area column row ↔ (IsIn clip (pos column) (pos row) × (left ≤ℤ pos column) × (pos column <ℤ right) × (top ≤ℤ pos row) × (pos row <ℤ bottom))

module _ {c : Canvas} {p : Picture} {area : Area} {left right top bottom : ℤ} (r : Rect) (spans : Spans p c.clip left top right bottom area)
    (a : left ≡ (r.a.x +ℤ c.origin.x)) (b : right ≡ (r.b.x +ℤ c.origin.x)) (d : top ≡ (r.a.y +ℤ c.origin.y)) (e : bottom ≡ (r.b.y +ℤ c.origin.y)) where
  pub area_covered : (column row : ℕ) → IsOn p column row → IsInArea area column row → Covers c r column row
  area_covered column row on i = let x = (spans.places column row on).0 i in record {
    clip = x.0;
    rect = record { after_left = rw (← a) x.1; before_right = rw (← b) x.2; after_top = rw (← d) x.3; before_bottom = rw (← e) x.4 };
  }

  pub covered_area : (column row : ℕ) → IsOn p column row → Covers c r column row → IsInArea area column row
  covered_area column row on i = (spans.places column row on).1 (i.clip, rw a i.rect.after_left, rw b i.rect.before_right, rw d i.rect.after_top, rw e i.rect.before_bottom)

  -- when the rows have come to the end
  pub changes_covered : {f : ℕ → ℕ → Glyph → Glyph} {new : Picture} (row : ℕ) → row ≡ area.bottom → Changes (IsInArea (rows_before area row)) f p new → Changes (Covers c r) f p new
  changes_covered row at q = changes_along (λ x y on i. area_covered x y on (rw (← at) i)) (λ x y on i. rw at (covered_area x y on i)) q
