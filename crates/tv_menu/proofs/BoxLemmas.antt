-- The item of a menu that is under a point.
use Rattle.std.proofs.Common.{◌≡◌, ℕ, Bool, true, Some, None, ℤ, pos, ◌-ℤ◌, ◌&&◌, if◌then◌else◌, ap, ◌∙◌, refl, sym}
use Rattle.tv_cells.specs.Layers.{is_in}
use Rattle.tv_cells.specs.declared.rect.Point.{Point}
use Rattle.tv_cells.specs.declared.rect.Rect.{Rect}
use Rattle.tv_model.specs.declared.desc.Desc.{Desc}
use Rattle.tv_model.specs.Description.Numbers.{natural}
use Rattle.tv_model.specs.Description.Rectangles.{desktop}
use Rattle.tv_machine.specs.Screen.Bars.{box_of, item_under, without_edge}

both : (a b : Bool) (item : ℕ) → a ≡ true → b ≡ true → Some item ≡ (if a && b then Some item else None)
both a b item ah bh = rw (ah, bh) refl

pub under_is : (d : Desc) (place : ℕ) (p : Point) (bounds inner : Rect) (rows : ℤ) (item : ℕ) → bounds ≡ box_of d place → inner ≡ without_edge bounds
    → is_in (desktop d) p.x p.y ≡ true → is_in inner p.x p.y ≡ true → rows ≡ (p.y -ℤ bounds.a.y -ℤ pos 1) → item ≡ natural rows → Some item ≡ item_under d place p
under_is d place p bounds inner rows item bounds-are inner-is on-desktop inside rows-are item-is =
    let edge : inner ≡ without_edge (box_of d place) = inner-is ∙ ap without_edge bounds-are in
    let row : item ≡ natural (p.y -ℤ (box_of d place).a.y -ℤ pos 1) =
    item-is ∙ (ap natural rows-are ∙ ap (λ r. natural (p.y -ℤ r.a.y -ℤ pos 1)) bounds-are) in
    ap Some row ∙ both (is_in (desktop d) p.x p.y) (is_in (without_edge (box_of d place)) p.x p.y) (natural (p.y -ℤ (box_of d place).a.y -ℤ pos 1))
    on-desktop (sym (ap (λ r. is_in r p.x p.y) edge) ∙ inside)
