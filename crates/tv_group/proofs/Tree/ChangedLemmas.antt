-- What becomes of a list where the first or the last element that is so changes.
use Rattle.std.proofs.Common.{◌≡◌, Bool, true, false, ◌||◌, ◌==◌, if◌then◌else◌, List, [], ◌∷◌, ◌++◌, map, reverse, find, Some, All, refl, sym, ap, subst, ◌∙◌}
use Rattle.std.proofs.lemmas.Bool.{or_parts, or_from}
use Rattle.std.proofs.lemmas.Grind.{reverse_onto}
use Rattle.std.proofs.lemmas.List.{map-append, reverse-reverse}
use Rattle.std.proofs.lemmas.List.Elements.{All-head, All-tail, All-push, All-same}
use Rattle.tv_model.specs.declared.node.Id.{Id}
use Rattle.tv_machine.specs.Dialog.Rules.{is_among}
use Rattle.tv_group.specs.Handling.{first_changed, last_changed}
use Rattle.tv_machine.proofs.ListLemmas.{AreApart, changed_at, id-swap}
use Rattle.tv_group.proofs.Tree.FoundLemmas.{first_changed-found}

-- ---- lists from the end

pub All-reverse : {A : Type 0} (P : A → Type 0) (xs : List A) → All P xs → All P (reverse xs)
All-reverse P [] all = all
All-reverse P (x ∷ xs) all =
    All-same P (reverse (x ∷ xs)) (reverse xs ++ x ∷ []) (reverse_onto xs x [])
    (All-push P (reverse xs) x (All-reverse P xs (All-tail P x xs all)) (All-head P x xs all))

pub reverse-map : {A B : Type 0} (f : A → B) (xs : List A) → reverse (map f xs) ≡ map f (reverse xs)
reverse-map f [] = refl
reverse-map f (x ∷ xs) =
    reverse_onto (map f xs) (f x) []
    ∙ ap (λ t. t ++ f x ∷ []) (reverse-map f xs)
    ∙ sym (map-append f (reverse xs) (x ∷ []))
    ∙ ap (map f) (sym (reverse_onto xs x []))

-- ---- ids from the end

or-swapped : (a b c : Bool) → (a || (b || c)) ≡ ((a || b) || c)
or-swapped true b c = refl
or-swapped false b c = refl

or-end : (a : Bool) → (a || false) ≡ a
or-end true = refl
or-end false = refl

among-push : (ids : List Id) (j i : Id) → is_among (ids ++ j ∷ []) i ≡ (is_among ids i || (j.0 == i.0))
among-push [] j i = or-end (j.0 == i.0)
among-push (x ∷ ids) j i = ap (λ b. (x.0 == i.0) || b) (among-push ids j i) ∙ or-swapped (x.0 == i.0) (is_among ids i) (j.0 == i.0)

absent-reverse : (ids : List Id) (i : Id) → is_among ids i ≡ false → is_among (reverse ids) i ≡ false
absent-reverse [] i e = refl
absent-reverse (x ∷ ids) i e =
    let parts = or_parts (x.0 == i.0) (is_among ids i) e in
    ap (λ xs. is_among xs i) (reverse_onto ids x [])
    ∙ among-push (reverse ids) x i
    ∙ or_from (is_among (reverse ids) i) (x.0 == i.0) (absent-reverse ids i parts.1) parts.0

apart-push : (ids : List Id) (i : Id) → AreApart ids → is_among ids i ≡ false → AreApart (ids ++ i ∷ [])
apart-push [] i apart e = (refl, tt)
apart-push (x ∷ ids) i apart e =
    let parts = or_parts (x.0 == i.0) (is_among ids i) e in
    (among-push ids i x ∙ or_from (is_among ids x) (i.0 == x.0) apart.0 (id-swap i x ∙ parts.0), apart-push ids i apart.1 parts.1)

apart-reverse : (ids : List Id) → AreApart ids → AreApart (reverse ids)
apart-reverse [] apart = tt
apart-reverse (x ∷ ids) apart =
    subst AreApart (sym (reverse_onto ids x [])) (apart-push (reverse ids) x (apart-reverse ids apart.1) (absent-reverse ids x apart.0))

-- ---- the last that is so

module _ {A : Type 0} (is_so : A → Bool) (change : A → A) where
  -- the change leaves it as it is, or there is none
  pub first_changed-same : (xs : List A) → ((x : A) → find is_so xs ≡ Some x → change x ≡ x) → first_changed is_so change xs ≡ xs
  first_changed-same [] same = refl
  first_changed-same (x ∷ xs) same =
      elim (is_so x) as (λ b. ((y : A) → (if b then Some x else find is_so xs) ≡ Some y → change y ≡ y)
      → (if b then change x ∷ xs else x ∷ first_changed is_so change xs) ≡ x ∷ xs)
      [ true ↦ λ h. ap (λ y. y ∷ xs) (h x refl) | false ↦ λ h. ap (λ t. x ∷ t) (first_changed-same xs h) ] same

  pub last_changed-same : (xs : List A) → ((x : A) → find is_so (reverse xs) ≡ Some x → change x ≡ x) → last_changed is_so change xs ≡ xs
  last_changed-same xs same = ap reverse (first_changed-same (reverse xs) same) ∙ reverse-reverse xs

  -- the element with the id of the one that was found changes
  pub last_changed-found : (id : A → Id) (xs : List A) (x : A) → AreApart (map id xs) → find is_so (reverse xs) ≡ Some x
      → last_changed is_so change xs ≡ map (changed_at id (id x) change) xs
  last_changed-found id xs x apart e =
      ap reverse (first_changed-found id is_so change (reverse xs) x (subst AreApart (reverse-map id xs) (apart-reverse (map id xs) apart)) e)
      ∙ reverse-map (changed_at id (id x) change) (reverse xs)
      ∙ ap (map (changed_at id (id x) change)) (reverse-reverse xs)
