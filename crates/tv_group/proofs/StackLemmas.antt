-- Rotating a part of a list brings an item to its front, or sends it to its back.
use Rattle.std.proofs.Common.{◌≡◌, ℕ, suc, ◌+◌, ◌-◌, List, [], ◌∷◌, ◌++◌, length, take, drop, refl, sym, ap, ◌∙◌, arith, append_assoc}
use Rattle.std.proofs.Math.ListN.{drop_of_length-le}
use Rattle.std.proofs.lemmas.List.{drop-drop, drop-take, length-drop, take-take, take_rest}
use Rattle.tv_group.specs.Stack.{lowered, raised_at}

module _ {X : Type 0} (items : List X) (place : ℕ) where
  pub front_is : (rotated : List X) → rotated ≡ drop place (take (place + 1) items) ++ take place (take (place + 1) items) → rotated ++ drop (place + 1) items ≡ raised_at items place
  front_is rotated is =
      let next : place + 1 ≡ suc place = omega arith in
      rw (is, drop-take place 1 items, take-take place (place + 1) items (omega arith), next) (append_assoc (take 1 (drop place items)) (take place items) (drop (suc place) items))

  pub back_is : (part rotated after : List X) → part ≡ take (length items - place) (drop place items) → rotated ≡ drop 1 part ++ take 1 part
      → after ≡ drop (length items - place) (drop place items) → take place items ++ (rotated ++ after) ≡ lowered items place
  back_is part rotated after whole is rest =
      let none : after ≡ [] = rest ∙ drop_of_length-le (drop place items) (omega (arith, length-drop place items)) in
      let all : part ≡ drop place items = whole ∙ take_rest items place in
      let next : place + 1 ≡ suc place = omega arith in
      rw (none, is, all, drop-drop 1 place items, next)
      (ap (λ t. take place items ++ t) (nil_last (drop (suc place) items ++ take 1 (drop place items)))
      ∙ sym (append_assoc (take place items) (drop (suc place) items) (take 1 (drop place items))))
    where
      nil_last : (xs : List X) → xs ++ [] ≡ xs
      nil_last [] = refl
      nil_last (x ∷ xs) = ap (λ t. x ∷ t) (nil_last xs)
