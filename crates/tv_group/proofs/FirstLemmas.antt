-- The first and the last of a list that is so, and what changing it alone makes of the list.
use Rattle.std.proofs.Common.{◌≡◌, Bool, true, false, List, [], ◌∷◌, ◌++◌, map, Option, Some, None, if◌then◌else◌, refl, sym, ap, ◌∙◌}
use Rattle.std.proofs.lemmas.List.{reverse-append, reverse-reverse}
use Rattle.std.specs.Prelude.{find, reverse, option_map}
use Rattle.tv_group.specs.Handling.{first_changed, last_changed}
use Rattle.tv_group.proofs.OpenedLemmas.{map_snoc}

-- ---- the first

module _ {A : Type 0} (p : A → Bool) where
  pub find-append-unfound : (xs ys : List A) → find p xs ≡ None → find p (xs ++ ys) ≡ find p ys
  find-append-unfound [] ys e = refl
  find-append-unfound (x ∷ xs) ys e = step (p x) x (find p xs) (find p (xs ++ ys)) (find p ys) (λ u. find-append-unfound xs ys u) e
    where
      step : (b : Bool) (x : A) (here both rest : Option A) → (here ≡ None → both ≡ rest) → (if b then Some x else here) ≡ None
          → (if b then Some x else both) ≡ rest
      step true x here both rest f e = cc
      step false x here both rest f e = f e

  pub find-append-found : (xs ys : List A) (x : A) → find p xs ≡ Some x → find p (xs ++ ys) ≡ Some x
  find-append-found [] ys x e = cc
  find-append-found (y ∷ xs) ys x e = step (p y) y x (find p xs) (find p (xs ++ ys)) (λ u. find-append-found xs ys x u) e
    where
      step : (b : Bool) (y x : A) (here both : Option A) → (here ≡ Some x → both ≡ Some x) → (if b then Some y else here) ≡ Some x
          → (if b then Some y else both) ≡ Some x
      step true y x here both f e = e
      step false y x here both f e = f e

  -- what was found is so
  pub find-holds : (xs : List A) (x : A) → find p xs ≡ Some x → p x ≡ true
  find-holds [] x e = cc
  find-holds (y ∷ xs) x e = step (p y) y x (find p xs) refl (λ u. find-holds xs x u) e
    where
      step : (b : Bool) (y x : A) (here : Option A) → p y ≡ b → (here ≡ Some x → p x ≡ true)
          → (if b then Some y else here) ≡ Some x → p x ≡ true
      step true y x here is f e = let same : y ≡ x = cc in ap p (sym same) ∙ is
      step false y x here is f e = f e

  pub find-nowhere : (xs : List A) → ((x : A) → p x ≡ false) → find p xs ≡ None
  find-nowhere [] never = refl
  find-nowhere (x ∷ xs) never = ap (λ b. if b then Some x else find p xs) (never x) ∙ find-nowhere xs never

  module _ (change : A → A) where
    pub first_changed-unfound : (xs : List A) → find p xs ≡ None → first_changed p change xs ≡ xs
    first_changed-unfound [] e = refl
    first_changed-unfound (x ∷ xs) e = step (p x) x (find p xs) xs (first_changed p change xs) (λ u. first_changed-unfound xs u) e
      where
        step : (b : Bool) (x : A) (here : Option A) (xs ys : List A) → (here ≡ None → ys ≡ xs)
            → (if b then Some x else here) ≡ None → (if b then change x ∷ xs else x ∷ ys) ≡ x ∷ xs
        step true x here xs ys f e = cc
        step false x here xs ys f e = ap (λ t. x ∷ t) (f e)

    -- the first that is so stays as it is
    pub first_changed-same : (xs : List A) (x : A) → find p xs ≡ Some x → change x ≡ x → first_changed p change xs ≡ xs
    first_changed-same [] x e stays = refl
    first_changed-same (y ∷ xs) x e stays =
        step (p y) y (find p xs) xs (first_changed p change xs) (λ u. first_changed-same xs x u stays) e
      where
        step : (b : Bool) (y : A) (here : Option A) (xs ys : List A) → (here ≡ Some x → ys ≡ xs)
            → (if b then Some y else here) ≡ Some x → (if b then change y ∷ xs else y ∷ ys) ≡ y ∷ xs
        step true y here xs ys f e = let same : y ≡ x = cc in ap (λ t. t ∷ xs) (ap change same ∙ stays ∙ sym same)
        step false y here xs ys f e = ap (λ t. y ∷ t) (f e)

    pub first_changed-append-unfound : (xs ys : List A) → find p xs ≡ None
        → first_changed p change (xs ++ ys) ≡ xs ++ first_changed p change ys
    first_changed-append-unfound [] ys e = refl
    first_changed-append-unfound (x ∷ xs) ys e =
        step (p x) x (find p xs) (first_changed p change (xs ++ ys)) (λ u. first_changed-append-unfound xs ys u) e
      where
        step : (b : Bool) (x : A) (here : Option A) (both : List A) → (here ≡ None → both ≡ xs ++ first_changed p change ys)
            → (if b then Some x else here) ≡ None
            → (if b then change x ∷ (xs ++ ys) else x ∷ both) ≡ x ∷ (xs ++ first_changed p change ys)
        step true x here both f e = cc
        step false x here both f e = ap (λ t. x ∷ t) (f e)

    pub first_changed-append-found : (xs ys : List A) (x : A) → find p xs ≡ Some x
        → first_changed p change (xs ++ ys) ≡ first_changed p change xs ++ ys
    first_changed-append-found [] ys x e = cc
    first_changed-append-found (y ∷ xs) ys x e =
        step (p y) y (find p xs) xs (first_changed p change xs) (first_changed p change (xs ++ ys))
        (λ u. first_changed-append-found xs ys x u) e
      where
        step : (b : Bool) (y : A) (here : Option A) (xs changed both : List A) → (here ≡ Some x → both ≡ changed ++ ys)
            → (if b then Some y else here) ≡ Some x
            → (if b then change y ∷ (xs ++ ys) else y ∷ both) ≡ (if b then change y ∷ xs else y ∷ changed) ++ ys
        step true y here xs changed both f e = refl
        step false y here xs changed both f e = ap (λ t. y ∷ t) (f e)

-- ---- the last

module _ {A : Type 0} (p : A → Bool) where
  pub find_last-append-unfound : (xs ys : List A) → find p (reverse ys) ≡ None → find p (reverse (xs ++ ys)) ≡ find p (reverse xs)
  find_last-append-unfound xs ys e = ap (find p) (reverse-append xs ys) ∙ find-append-unfound p (reverse ys) (reverse xs) e

  pub find_last-append-found : (xs ys : List A) (x : A) → find p (reverse ys) ≡ Some x → find p (reverse (xs ++ ys)) ≡ Some x
  find_last-append-found xs ys x e = ap (find p) (reverse-append xs ys) ∙ find-append-found p (reverse ys) (reverse xs) x e

  module _ (change : A → A) where
    pub last_changed-unfound : (xs : List A) → find p (reverse xs) ≡ None → last_changed p change xs ≡ xs
    last_changed-unfound xs e = ap reverse (first_changed-unfound p change (reverse xs) e) ∙ reverse-reverse xs

    pub last_changed-append-unfound : (xs ys : List A) → find p (reverse ys) ≡ None
        → last_changed p change (xs ++ ys) ≡ last_changed p change xs ++ ys
    last_changed-append-unfound xs ys e =
        ap (λ l. reverse (first_changed p change l)) (reverse-append xs ys)
        ∙ ap reverse (first_changed-append-unfound p change (reverse ys) (reverse xs) e)
        ∙ reverse-append (reverse ys) (first_changed p change (reverse xs))
        ∙ ap (λ l. last_changed p change xs ++ l) (reverse-reverse ys)

    pub last_changed-append-found : (xs ys : List A) (x : A) → find p (reverse ys) ≡ Some x
        → last_changed p change (xs ++ ys) ≡ xs ++ last_changed p change ys
    last_changed-append-found xs ys x e =
        ap (λ l. reverse (first_changed p change l)) (reverse-append xs ys)
        ∙ ap reverse (first_changed-append-found p change (reverse ys) (reverse xs) x e)
        ∙ reverse-append (first_changed p change (reverse ys)) (reverse xs)
        ∙ ap (λ l. l ++ last_changed p change ys) (reverse-reverse xs)

-- ---- lists that were mapped

pub reverse-map : {A B : Type 0} (f : A → B) (xs : List A) → reverse (map f xs) ≡ map f (reverse xs)
reverse-map f [] = refl
reverse-map f (x ∷ xs) =
    reverse-append (f x ∷ []) (map f xs)
    ∙ ap (λ l. l ++ (f x ∷ [])) (reverse-map f xs)
    ∙ sym (map_snoc f (reverse xs) x)
    ∙ ap (map f) (sym (reverse-append (x ∷ []) xs))

module _ {A B : Type 0} (f : A → B) (p : B → Bool) (q : A → Bool) (same : (x : A) → p (f x) ≡ q x) where
  pub find-map : (xs : List A) → find p (map f xs) ≡ option_map f (find q xs)
  find-map [] = refl
  find-map (x ∷ xs) =
      ap (λ b. if b then Some (f x) else find p (map f xs)) (same x)
      ∙ step (q x) x (find p (map f xs)) (find q xs) (find-map xs)
    where
      step : (b : Bool) (x : A) (here : Option B) (there : Option A) → here ≡ option_map f there
          → (if b then Some (f x) else here) ≡ option_map f (if b then Some x else there)
      step true x here there e = refl
      step false x here there e = e

  pub find_last-map : (xs : List A) → find p (reverse (map f xs)) ≡ option_map f (find q (reverse xs))
  find_last-map xs = ap (find p) (reverse-map f xs) ∙ find-map (reverse xs)

  module _ (change : B → B) (change_there : A → A) (does : (x : A) → change (f x) ≡ f (change_there x)) where
    pub first_changed-map : (xs : List A) → first_changed p change (map f xs) ≡ map f (first_changed q change_there xs)
    first_changed-map [] = refl
    first_changed-map (x ∷ xs) =
        ap (λ b. if b then change (f x) ∷ map f xs else f x ∷ first_changed p change (map f xs)) (same x)
        ∙ step (q x) x xs (first_changed p change (map f xs)) (first_changed q change_there xs) (first_changed-map xs)
      where
        step : (b : Bool) (x : A) (xs : List A) (here : List B) (there : List A) → here ≡ map f there
            → (if b then change (f x) ∷ map f xs else f x ∷ here) ≡ map f (if b then change_there x ∷ xs else x ∷ there)
        step true x xs here there e = ap (λ y. y ∷ map f xs) (does x)
        step false x xs here there e = ap (λ t. f x ∷ t) e

    pub last_changed-map : (xs : List A) → last_changed p change (map f xs) ≡ map f (last_changed q change_there xs)
    last_changed-map xs =
        ap (λ l. reverse (first_changed p change l)) (reverse-map f xs)
        ∙ ap reverse (first_changed-map (reverse xs))
        ∙ reverse-map f (first_changed q change_there (reverse xs))
