-- Lists whose elements have different ids: what is found by an id, and what becomes of what has it.
use Rattle.std.proofs.Common.{◌≡◌, Bool, true, false, cond, ◌&&◌, ◌||◌, ◌==◌, ℕ, zero, suc, ◌<◌, if◌then◌else◌, List, [], ◌∷◌, map, filter, find, get_or, Option, Some, None, option_map, is_some, refl, sym, ap, subst, ◌∙◌, All, AllPairs, arith}
use Rattle.std.specs.List.{list_any, list_all}
use Rattle.std.proofs.lemmas.Bool.{or_parts, or_from, eqb-true, eq-eqb}
use Rattle.std.proofs.lemmas.Bool.Decides.{nat_tests}
use Rattle.std.proofs.lemmas.List.Folds.{list_any_none}
use Rattle.std.proofs.lemmas.List.Elements.{All-nil, All-cons, All-head, All-tail}
use Rattle.tv_model.specs.declared.node.Id.{Id}
use Rattle.tv_machine.specs.Dialog.Rules.{is_among}

-- ---- cases

pub bool_cases : (b : Bool) (P : Bool → Type 0) → (b ≡ true → P true) → (b ≡ false → P false) → P b
bool_cases true P at_true at_false = at_true refl
bool_cases false P at_true at_false = at_false refl

pub option_cases : {A : Type 0} (o : Option A) (P : Option A → Type 0) → (o ≡ None → P None) → ((x : A) → o ≡ Some x → P (Some x)) → P o
option_cases None P none some = none refl
option_cases (Some x) P none some = some x refl

pub either-same : {A : Type 0} (b : Bool) (x : A) → (if b then x else x) ≡ x
either-same true x = refl
either-same false x = refl

pub or-false : (b : Bool) → (b || false) ≡ b
or-false true = refl
or-false false = refl

pub and-true : (b : Bool) → (b && true) ≡ b
and-true true = refl
and-true false = refl

-- ---- ids

abbrev id_of : ℕ → Id
id_of n = record { 0 = n }

pub same-id : (i j : Id) → (i.0 == j.0) ≡ true → i ≡ j
same-id i j e = ap id_of (eqb-true i.0 j.0 e)

pub id-itself : (i : Id) → (i.0 == i.0) ≡ true
id-itself i = eq-eqb i.0 i.0 refl

swap_at : (a b : ℕ) → (a == b) ≡ (b == a)
swap_at a b = grind (arith, nat_tests)

pub id-swap : (i j : Id) → (i.0 == j.0) ≡ (j.0 == i.0)
id-swap i j = swap_at i.0 j.0

pub above-false : (a b : ℕ) → a < b → (b == a) ≡ false
above-false a b h = grind (arith, nat_tests)

-- ---- what is found

pub found-passes : {A : Type 0} (p : A → Bool) (xs : List A) (x : A) → find p xs ≡ Some x → p x ≡ true
found-passes p [] x e = absurd cc
found-passes p (y ∷ xs) x e =
    bool_cases (p y) (λ b. cond b (Some y) (find p xs) ≡ Some x → p x ≡ true)
    (λ is f. let same : y ≡ x = cc in ap p (sym same) ∙ is) (λ is f. found-passes p xs x f) e

pub found-all : {A : Type 0} (P : A → Type 0) (p : A → Bool) (xs : List A) (x : A) → All P xs → find p xs ≡ Some x → P x
found-all P p [] x all e = absurd cc
found-all P p (y ∷ xs) x all e =
    bool_cases (p y) (λ b. cond b (Some y) (find p xs) ≡ Some x → P x)
    (λ is f. let same : y ≡ x = cc in subst P same (All-head P y xs all)) (λ is f. found-all P p xs x (All-tail P y xs all) f) e

pub none-fails : {A : Type 0} (p : A → Bool) (xs : List A) → find p xs ≡ None → All (λ x. p x ≡ false) xs
none-fails p [] e = All-nil (λ x. p x ≡ false)
none-fails p (x ∷ xs) e =
    bool_cases (p x) (λ b. cond b (Some x) (find p xs) ≡ None → All (λ y. p y ≡ false) (x ∷ xs))
    (λ is f. absurd cc) (λ is f. All-cons (λ y. p y ≡ false) x xs is (none-fails p xs f)) e

pub find-none : {A : Type 0} (p : A → Bool) (xs : List A) → All (λ x. p x ≡ false) xs → find p xs ≡ None
find-none p [] all = refl
find-none p (x ∷ xs) all =
    ap (λ b. cond b (Some x) (find p xs)) (All-head (λ y. p y ≡ false) x xs all) ∙ find-none p xs (All-tail (λ y. p y ≡ false) x xs all)

-- ---- the same of each element

pub map-same : {A B : Type 0} (f g : A → B) (xs : List A) → All (λ x. f x ≡ g x) xs → map f xs ≡ map g xs
map-same f g [] all = refl
map-same f g (x ∷ xs) all =
    ap (λ y. y ∷ map f xs) (All-head (λ y. f y ≡ g y) x xs all)
    ∙ ap (λ ys. g x ∷ ys) (map-same f g xs (All-tail (λ y. f y ≡ g y) x xs all))

pub map-itself : {A : Type 0} (f : A → A) (xs : List A) → All (λ x. f x ≡ x) xs → map f xs ≡ xs
map-itself f [] all = refl
map-itself f (x ∷ xs) all =
    ap (λ y. y ∷ map f xs) (All-head (λ y. f y ≡ y) x xs all) ∙ ap (λ ys. x ∷ ys) (map-itself f xs (All-tail (λ y. f y ≡ y) x xs all))

pub find-same : {A : Type 0} (p q : A → Bool) (xs : List A) → All (λ x. p x ≡ q x) xs → find p xs ≡ find q xs
find-same p q [] all = refl
find-same p q (x ∷ xs) all =
    ap (λ b. cond b (Some x) (find p xs)) (All-head (λ y. p y ≡ q y) x xs all)
    ∙ ap (λ found. cond (q x) (Some x) found) (find-same p q xs (All-tail (λ y. p y ≡ q y) x xs all))

pub any-same : {A : Type 0} (p q : A → Bool) (xs : List A) → All (λ x. p x ≡ q x) xs → list_any p xs ≡ list_any q xs
any-same p q [] all = refl
any-same p q (x ∷ xs) all =
    ap (λ b. b || list_any p xs) (All-head (λ y. p y ≡ q y) x xs all)
    ∙ ap (λ b. q x || b) (any-same p q xs (All-tail (λ y. p y ≡ q y) x xs all))

pub all-same : {A : Type 0} (p q : A → Bool) (xs : List A) → All (λ x. p x ≡ q x) xs → list_all p xs ≡ list_all q xs
all-same p q [] all = refl
all-same p q (x ∷ xs) all =
    ap (λ b. b && list_all p xs) (All-head (λ y. p y ≡ q y) x xs all)
    ∙ ap (λ b. q x && b) (all-same p q xs (All-tail (λ y. p y ≡ q y) x xs all))

-- ---- a list that was mapped

cond_map : {A B : Type 0} (f : A → B) (b : Bool) (x : A) (rest : Option A)
    → cond b (Some (f x)) (option_map f rest) ≡ option_map f (cond b (Some x) rest)
cond_map f true x rest = refl
cond_map f false x rest = refl

pub find-map : {A B : Type 0} (f : A → B) (p : B → Bool) (xs : List A) → find p (map f xs) ≡ option_map f (find (λ x. p (f x)) xs)
find-map f p [] = refl
find-map f p (x ∷ xs) = ap (λ found. cond (p (f x)) (Some (f x)) found) (find-map f p xs) ∙ cond_map f (p (f x)) x (find (λ y. p (f y)) xs)

pub any-map : {A B : Type 0} (f : A → B) (p : B → Bool) (xs : List A) → list_any p (map f xs) ≡ list_any (λ x. p (f x)) xs
any-map f p [] = refl
any-map f p (x ∷ xs) = ap (λ b. p (f x) || b) (any-map f p xs)

pub map-map : {A B C : Type 0} (f : A → B) (g : B → C) (xs : List A) → map g (map f xs) ≡ map (λ x. g (f x)) xs
map-map f g [] = refl
map-map f g (x ∷ xs) = ap (λ ys. g (f x) ∷ ys) (map-map f g xs)

pub All-unmap : {A B : Type 0} (P : B → Type 0) (f : A → B) (xs : List A) → All P (map f xs) → All (λ x. P (f x)) xs
All-unmap P f [] all = All-nil (λ x. P (f x))
All-unmap P f (x ∷ xs) all =
    All-cons (λ y. P (f y)) x xs (All-head P (f x) (map f xs) all) (All-unmap P f xs (All-tail P (f x) (map f xs) all))

-- ---- ids in a list

pub among-filter : (p : Id → Bool) (ids : List Id) (i : Id) → is_among (filter p ids) i ≡ (p i && is_among ids i)
among-filter p [] i = sym (and_false (p i))
  where
    and_false : (b : Bool) → (b && false) ≡ false
    and_false true = refl
    and_false false = refl
among-filter p (x ∷ ids) i =
    bool_cases (p x) (λ b. is_among (cond b (x ∷ filter p ids) (filter p ids)) i ≡ (p i && ((x.0 == i.0) || is_among ids i)))
    (λ is. bool_cases (x.0 == i.0) (λ b. (b || is_among (filter p ids) i) ≡ (p i && (b || is_among ids i)))
    (λ here. sym (and-true (p i) ∙ ap p (sym (same-id x i here)) ∙ is)) (λ there. among-filter p ids i))
    (λ is. bool_cases (x.0 == i.0) (λ b. is_among (filter p ids) i ≡ (p i && (b || is_among ids i)))
    (λ here.
    let fails : p i ≡ false = ap p (sym (same-id x i here)) ∙ is in
    among-filter p ids i ∙ ap (λ b. b && is_among ids i) fails ∙ sym (ap (λ b. b && true) fails))
    (λ there. among-filter p ids i))

-- no id stands twice
abbrev pub AreApart : List Id → Type 0
AreApart [] = Unit {0}
AreApart (i ∷ ids) = (is_among ids i ≡ false) × AreApart ids

module _ {A : Type 0} (id : A → Id) where
  -- whether it has the id
  abbrev pub has : Id → A → Bool
  has i x = (id x).0 == i.0

  pub found-among : (xs : List A) (i : Id) → is_some (find (has i) xs) ≡ is_among (map id xs) i
  found-among [] i = refl
  found-among (x ∷ xs) i =
      bool_cases (has i x) (λ b. is_some (cond b (Some x) (find (has i) xs)) ≡ (b || is_among (map id xs) i)) (λ is. refl)
      (λ is. found-among xs i)

  pub others-fail : (xs : List A) (i : Id) → is_among (map id xs) i ≡ false → All (λ x. has i x ≡ false) xs
  others-fail [] i e = All-nil (λ x. has i x ≡ false)
  others-fail (x ∷ xs) i e =
      let parts = or_parts (has i x) (is_among (map id xs) i) e in
      All-cons (λ y. has i y ≡ false) x xs parts.0 (others-fail xs i parts.1)

  pub fails-absent : (xs : List A) (i : Id) → All (λ x. has i x ≡ false) xs → is_among (map id xs) i ≡ false
  fails-absent [] i all = refl
  fails-absent (x ∷ xs) i all =
      or_from (has i x) (is_among (map id xs) i) (All-head (λ y. has i y ≡ false) x xs all)
      (fails-absent xs i (All-tail (λ y. has i y ≡ false) x xs all))

  find_later : (x y : A) (xs : List A) → has (id x) y ≡ false → find (has (id y)) xs ≡ Some y → find (has (id y)) (x ∷ xs) ≡ Some y
  find_later x y xs other found = ap (λ b. cond b (Some x) (find (has (id y)) xs)) (id-swap (id x) (id y) ∙ other) ∙ found

  -- each element is found by its id
  pub find-member : (xs : List A) → AreApart (map id xs) → All (λ x. find (has (id x)) xs ≡ Some x) xs
  find-member [] apart = All-nil (λ x. find (has (id x)) [] ≡ Some x)
  find-member (x ∷ xs) apart =
      All-cons (λ y. find (has (id y)) (x ∷ xs) ≡ Some y) x xs
      (ap (λ b. cond b (Some x) (find (has (id x)) xs)) (id-itself (id x)))
      (λ k e h. find_later x (get_or xs k e) xs (others-fail xs (id x) apart.0 k e h) (find-member xs apart.1 k e h))

  pub found-member : (p : A → Bool) (xs : List A) (x : A) → AreApart (map id xs) → find p xs ≡ Some x → find (has (id x)) xs ≡ Some x
  found-member p xs x apart e = found-all (λ y. find (has (id y)) xs ≡ Some y) p xs x (find-member xs apart) e

  pub found-id : (i : Id) (xs : List A) (x : A) → find (has i) xs ≡ Some x → id x ≡ i
  found-id i xs x e = same-id (id x) i (found-passes (has i) xs x e)

  -- ---- what has the id and passes a test is what is found by the id, where that passes it

  abbrev pub on_found : (A → Bool) → Option A → Bool
  on_found test None = false
  on_found test (Some x) = test x

  pub any-found : (i : Id) (test : A → Bool) (xs : List A) → AreApart (map id xs)
      → list_any (λ x. has i x && test x) xs ≡ on_found test (find (has i) xs)
  any-found i test [] apart = refl
  any-found i test (x ∷ xs) apart =
      bool_cases (has i x)
      (λ b. ((b && test x) || list_any (λ y. has i y && test y) xs) ≡ on_found test (cond b (Some x) (find (has i) xs)))
      (λ here. ap (λ b. test x || b) (list_any_none (λ y. has i y && test y) xs
      (λ k e h. ap (λ b. b && test (get_or xs k e))
      (others-fail xs i (ap (is_among (map id xs)) (sym (same-id (id x) i here)) ∙ apart.0) k e h))) ∙ or-false (test x))
      (λ there. any-found i test xs apart.1)

  -- ---- what becomes of the element of an id

  abbrev pub changed_at : Id → (A → A) → A → A
  changed_at i change x = if has i x then change x else x

-- ---- lists that rise

pub pairs-head : {A : Type 0} (R : A → A → Type 0) (x : A) (xs : List A) → AllPairs R (x ∷ xs) → All (R x) xs
pairs-head R x xs pairs = λ k e h. pairs zero (suc k) e (omega arith) (omega arith)

pub pairs-tail : {A : Type 0} (R : A → A → Type 0) (x : A) (xs : List A) → AllPairs R (x ∷ xs) → AllPairs R xs
pairs-tail R x xs pairs = λ i j e less h. pairs (suc i) (suc j) e (omega arith) (omega arith)
