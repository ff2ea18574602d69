-- What the first element that is so answers and becomes, where ids differ.
use Rattle.std.proofs.Common.{◌≡◌, Bool, true, false, cond, ◌==◌, if◌then◌else◌, List, [], ◌∷◌, map, find, get_or, Option, Some, None, refl, sym, ap, ◌∙◌}
use Rattle.std.specs.Option.{option_or}
use Rattle.tv_model.specs.declared.node.Id.{Id}
use Rattle.tv_machine.specs.Dialog.Rules.{is_among}
use Rattle.tv_machine.proofs.ListLemmas.{AreApart, bool_cases, changed_at, find-none, found-all, has, id-itself, id-swap, map-itself, others-fail, same-id}
use Rattle.tv_group.specs.Calls.{first_some}
use Rattle.tv_group.specs.Handling.{first_changed}

pub first_some-map : {A B C : Type 0} (f : A → B) (ask : B → Option C) (xs : List A)
    → first_some ask (map f xs) ≡ first_some (λ x. ask (f x)) xs
first_some-map f ask [] = refl
first_some-map f ask (x ∷ xs) = ap (option_or (ask (f x))) (first_some-map f ask xs)

module _ {A : Type 0} (id : A → Id) where
  abbrev pub asked_at : {B : Type 0} → (A → Option B) → Option A → Option B
  asked_at ask None = None
  asked_at ask (Some x) = ask x

  or_none : {B : Type 0} (o : Option B) → option_or o None ≡ o
  or_none None = refl
  or_none (Some x) = refl

  -- what nothing but the element of the id answers
  pub first-found : {B : Type 0} (i : Id) (ask : A → Option B) (xs : List A) → AreApart (map id xs)
      → ((x : A) → has id i x ≡ false → ask x ≡ None)
      → first_some ask xs ≡ asked_at ask (find (has id i) xs)
  first-found i ask [] apart others = refl
  first-found i ask (x ∷ xs) apart others =
      bool_cases (has id i x) (λ b. option_or (ask x) (first_some ask xs) ≡ asked_at ask (cond b (Some x) (find (has id i) xs)))
      (λ here.
      ap (option_or (ask x))
      (first-found i ask xs apart.1 others
      ∙ ap (asked_at ask)
      (find-none (has id i) xs (others-fail id xs i (ap (is_among (map id xs)) (sym (same-id (id x) i here)) ∙ apart.0))))
      ∙ or_none (ask x))
      (λ there. ap (λ o. option_or o (first_some ask xs)) (others x there) ∙ first-found i ask xs apart.1 others)

  pub first_changed-none : (is_so : A → Bool) (change : A → A) (xs : List A) → find is_so xs ≡ None → first_changed is_so change xs ≡ xs
  first_changed-none is_so change [] e = refl
  first_changed-none is_so change (x ∷ xs) e =
      bool_cases (is_so x)
      (λ b. cond b (Some x) (find is_so xs) ≡ None → (if b then change x ∷ xs else x ∷ first_changed is_so change xs) ≡ x ∷ xs)
      (λ is f. absurd cc) (λ is f. ap (λ ys. x ∷ ys) (first_changed-none is_so change xs f)) e

  pub first_changed-found : (is_so : A → Bool) (change : A → A) (xs : List A) (x : A) → AreApart (map id xs) → find is_so xs ≡ Some x
      → first_changed is_so change xs ≡ map (changed_at id (id x) change) xs
  first_changed-found is_so change [] x apart e = absurd cc
  first_changed-found is_so change (y ∷ xs) x apart e =
      bool_cases (is_so y)
      (λ b. cond b (Some y) (find is_so xs) ≡ Some x
      → (if b then change y ∷ xs else y ∷ first_changed is_so change xs) ≡ map (changed_at id (id x) change) (y ∷ xs))
      (λ is f.
      let same : y ≡ x = cc in
      let absent : is_among (map id xs) (id x) ≡ false = ap (λ z. is_among (map id xs) (id z)) (sym same) ∙ apart.0 in
      let here : has id (id x) y ≡ true = ap (λ z. (id z).0 == (id x).0) same ∙ id-itself (id x) in
      ap (λ ys. change y ∷ ys)
      (sym (map-itself (changed_at id (id x) change) xs
      (λ k e h. ap (λ b. if b then change (get_or xs k e) else get_or xs k e) (others-fail id xs (id x) absent k e h))))
      ∙ ap (λ b. (if b then change y else y) ∷ map (changed_at id (id x) change) xs) (sym here))
      (λ is f.
      let other : has id (id y) x ≡ false = found-all (λ z. has id (id y) z ≡ false) is_so xs x (others-fail id xs (id y) apart.0) f in
      ap (λ ys. y ∷ ys) (first_changed-found is_so change xs x apart.1 f)
      ∙ ap (λ b. (if b then change y else y) ∷ map (changed_at id (id x) change) xs) (sym (id-swap (id y) (id x) ∙ other))) e
