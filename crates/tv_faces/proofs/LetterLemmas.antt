-- A button's brackets stand beside its marked letter.
use Rattle.std.proofs.Common.{◌≡◌, ℕ, ◌<◌, ◌≤◌, ◌-◌, Option, Some, None, false, List, length, ◌/◌, arith, refl, subst, sym}
use Rattle.std.proofs.Math.Nat.{div-le_self, min-le_left}
use Rattle.std.proofs.lemmas.List.{length-take}
use Rattle.std.proofs.lemmas.Bool.Decides.{nat_tests}
use Rattle.tv_model.specs.Screen.Faces.{button_text, is_letter_column}

pub letter_first : (width : ℕ) (text : List ℕ) (mark : Option ℕ) → is_letter_column width text mark 0 ≡ false
letter_first width text None = refl
letter_first width text (Some mark) = grind (arith, nat_tests)

pub letter_last : (width : ℕ) (text : List ℕ) (mark : Option ℕ) → 1 < width → is_letter_column width text mark (width - 1) ≡ false
letter_last width text None wide = refl
letter_last width text (Some mark) wide =
    let shown = length (button_text width text) in
    let few : shown ≤ width - 2 = subst (λ n. n ≤ width - 2) (sym (length-take (width - 2) text)) (min-le_left (width - 2) (length text)) in
    let half : (width - 2 - shown) / 2 ≤ width - 2 - shown = div-le_self (width - 2 - shown) 2 in
    grind (arith, nat_tests, few, half, wide)
