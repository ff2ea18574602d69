-- A point on the close mark of a window, seen from its corner.
use Rattle.std.proofs.Common.{◌≡◌, ℤ, pos, ◌+ℤ◌, ◌-ℤ◌, true, false, ◌&&◌, int_le, refl, sym, ap, ◌∙◌, arith}
use Rattle.std.specs.Int.Signed.{le_z, lt_z}
use Rattle.std.specs.Ordering.{int_eq}
use Rattle.std.proofs.lemmas.Bool.{false≢true}
use Rattle.std.proofs.lemmas.Bool.Decides.{Decides-int_eq}
use Rattle.std.proofs.lemmas.Int.{ints}
use Rattle.tv_cells.specs.Layers.{is_in}
use Rattle.tv_cells.specs.declared.rect.Point.{Point}
use Rattle.tv_model.specs.Description.Rectangles.{rect}
use Rattle.tv_machine.proofs.ListLemmas.{bool_cases}
use Rattle.tv_machine.specs.Dialog.Mouse.{is_close_mark}
use Rattle.tv_machine.specs.Session.Desktop.{seen_from}

from-left : (a p : ℤ) → le_z (a +ℤ pos 2) p ≡ int_le (pos 2) (p -ℤ a)
from-left a p = grind (arith, ints)

to-right : (a p : ℤ) → lt_z p ((a +ℤ pos 2) +ℤ pos 3) ≡ int_le (p -ℤ a) (pos 4)
to-right a p = grind (arith, ints)

same-row : (a p : ℤ) → le_z a p ≡ true → lt_z p (a +ℤ pos 1) ≡ true → p -ℤ a ≡ pos 0
same-row a p from to = grind (arith, ints)

pub on-row : (a p : ℤ) → (le_z a p && lt_z p (a +ℤ pos 1)) ≡ int_eq (p -ℤ a) (pos 0)
on-row a p =
    bool_cases (int_eq (p -ℤ a) (pos 0)) (λ b. (le_z a p && lt_z p (a +ℤ pos 1)) ≡ b)
    (λ is. let same : p -ℤ a ≡ pos 0 = (Decides-int_eq (p -ℤ a) (pos 0)).0 is in grind (arith, ints, same))
    (λ is. bool_cases (le_z a p) (λ b. (b && lt_z p (a +ℤ pos 1)) ≡ false)
    (λ from. bool_cases (lt_z p (a +ℤ pos 1)) (λ b. b ≡ false)
    (λ to. absurd (false≢true (sym is ∙ (Decides-int_eq (p -ℤ a) (pos 0)).1 (same-row a p from to)))) (λ past. refl))
    (λ before. refl))

pub mark-seen : (a p : Point) → is_in (rect (a.x +ℤ pos 2) a.y (pos 3) (pos 1)) p.x p.y ≡ is_close_mark (seen_from a p)
mark-seen a p =
    ap (λ b. (b && lt_z p.x ((a.x +ℤ pos 2) +ℤ pos 3)) && (le_z a.y p.y && lt_z p.y (a.y +ℤ pos 1))) (from-left a.x p.x)
    ∙ (ap (λ b. (int_le (pos 2) (p.x -ℤ a.x) && b) && (le_z a.y p.y && lt_z p.y (a.y +ℤ pos 1))) (to-right a.x p.x)
    ∙ ap (λ b. (int_le (pos 2) (p.x -ℤ a.x) && int_le (p.x -ℤ a.x) (pos 4)) && b) (on-row a.y p.y))
