-- The first of all that can't be shown, part by part.
use Rattle.std.proofs.Common.{◌≡◌, ◌∙◌, ℕ, suc, ◌+◌, ◌<◌, Bool, true, false, true≢false, List, [], ◌∷◌, ◌++◌, length, get_or, drop, flat_map, Option, Some, None, is_some, refl, sym, ap, add-one, drop-cons}
use Rattle.std.specs.Bool.{then_some}
use Rattle.std.specs.Option.{option_or}
use Rattle.tv_boxes.specs.declared.unfit.Unfit.{Unfit}
use Rattle.tv_boxes.specs.Unfit.{first, if_so}

-- what is told of one part, or else of the next
first_or : (some more : List Unfit) → first (some ++ more) ≡ option_or (first some) (first more)
first_or [] more = refl
first_or (what ∷ some) more = refl

pub first_or_three : (some more last : List Unfit) → first (some ++ (more ++ last)) ≡ option_or (option_or (first some) (first more)) (first last)
first_or_three [] more last = first_or more last
first_or_three (what ∷ some) more last = refl

pub told_if : (b : Bool) (what : Unfit) (more : List Unfit) → option_or (then_some b what) (first more) ≡ first (if_so b what ++ more)
told_if true what more = refl
told_if false what more = refl

-- ---- items, one by one

or_next : (o next : Option Unfit) → is_some o ≡ false → option_or o next ≡ next
or_next None next none = refl
or_next (Some what) next none = absurd (true≢false none)

or_this : (o next : Option Unfit) → is_some o ≡ true → option_or o next ≡ o
or_this None next some = absurd (true≢false (sym some))
or_this (Some what) next some = refl

module _ {A : Type 0} (f : A → List Unfit) where
  one_more : (xs : List A) (i : ℕ) (x : A) → i < length xs → x ≡ get_or xs i x
      → first (flat_map f (drop i xs)) ≡ option_or (first (f x)) (first (flat_map f (drop (i + 1) xs)))
  one_more xs i x less is =
      ap (λ ys. first (flat_map f ys)) (drop-cons xs i x less)
      ∙ ap (λ y. first (flat_map f (y ∷ drop (suc i) xs))) (sym is)
      ∙ first_or (f x) (flat_map f (drop (suc i) xs))
      ∙ ap (λ j. option_or (first (f x)) (first (flat_map f (drop j xs)))) (sym (add-one i))

  -- nothing is told of one item more
  pub next_item : (xs : List A) (i : ℕ) (x : A) → i < length xs → x ≡ get_or xs i x → is_some (first (f x)) ≡ false
      → first (flat_map f (drop i xs)) ≡ first (flat_map f xs) → first (flat_map f (drop (i + 1) xs)) ≡ first (flat_map f xs)
  next_item xs i x less is nothing so_far =
      sym (one_more xs i x less is ∙ or_next (first (f x)) (first (flat_map f (drop (i + 1) xs))) nothing) ∙ so_far

  -- what is told of an item, if nothing is of those before it
  pub this_item : (xs : List A) (i : ℕ) (x : A) → i < length xs → x ≡ get_or xs i x → is_some (first (f x)) ≡ true
      → first (flat_map f (drop i xs)) ≡ first (flat_map f xs) → first (f x) ≡ first (flat_map f xs)
  this_item xs i x less is something so_far =
      sym (one_more xs i x less is ∙ or_this (first (f x)) (first (flat_map f (drop (i + 1) xs))) something) ∙ so_far
