-- The first that is so in a list, where at most one is.
use Rattle.std.proofs.Common.{◌≡◌, Bool, true, false, List, [], ◌∷◌, find, get_or, Option, Some, None, if◌then◌else◌, refl, ap, ◌∙◌}
use Rattle.std.specs.List.{All, AllPairs}
use Rattle.std.proofs.lemmas.Bool.{false_from_ne_true}
use Rattle.tv_machine.proofs.ListLemmas.{bool_cases, find-none, pairs-head, pairs-tail}

-- not both are so
abbrev pub NotBoth : {A : Type 0} → (A → Bool) → A → A → Type 0
NotBoth p x y = p x ≡ true → p y ≡ true → ⊥

-- no two of the list are so
abbrev pub AtMostOne : {A : Type 0} → (A → Bool) → List A → Type 0
AtMostOne p xs = AllPairs (NotBoth p) xs

-- what was found, if it is so too
abbrev pub kept_if : {A : Type 0} → (A → Bool) → Option A → Option A
kept_if q None = None
kept_if q (Some x) = if q x then Some x else None

module _ {A : Type 0} (f p : A → Bool) (implies : (x : A) → f x ≡ true → p x ≡ true) where
  none_after : (x : A) (ys : List A) → p x ≡ true → All (NotBoth p x) ys → All (λ y. f y ≡ false) ys
  none_after x ys here others = λ k e h. false_from_ne_true (f (get_or ys k e)) (λ is. others k e h here (implies (get_or ys k e) is))

  -- the first that is so is the one among those of whom there is at most one
  pub find-only : (xs : List A) → AtMostOne p xs → find f xs ≡ kept_if f (find p xs)
  find-only [] alone = refl
  find-only (x ∷ xs) alone =
      let rest : find f xs ≡ kept_if f (find p xs) = find-only xs (pairs-tail (NotBoth p) x xs alone) in
      bool_cases (p x) (λ b. find f (x ∷ xs) ≡ kept_if f (if b then Some x else find p xs))
      (λ here. ap (λ o. if f x then Some x else o) (find-none f xs (none_after x xs here (pairs-head (NotBoth p) x xs alone))))
      (λ other. ap (λ b. if b then Some x else find f xs) (false_from_ne_true (f x) (λ h. cc (implies x h))) ∙ rest)
