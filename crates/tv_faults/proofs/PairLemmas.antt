-- Each item and each later one, and what holds of all items.
use Rattle.std.proofs.Common.{◌≡◌, ◌↔◌, ℕ, suc, ◌+◌, ◌<◌, ◌≤◌, ◌==◌, inl, inr, false, List, [], ◌∷◌, ◌++◌, length, get_or, map, flat_map, refl, ap, arith}
use Rattle.std.specs.List.{All, AllPairs}
use Rattle.std.proofs.lemmas.Bool.{eqb-false, eqb-true, cases_lt, false_from_ne_true}
use Rattle.std.proofs.lemmas.List.Elements.{All-nil, All-cons, All-head, All-tail, All-append, All-map}
use Rattle.std.proofs.lemmas.List.Kept.{AllPairs-cons}
use Rattle.tv_model.specs.Faults.Lines.{after_seen}

-- ---- conditions that say the same

pub chain : {P Q R : Type 0} → P ↔ Q → Q ↔ R → P ↔ R
chain f g = (λ p. g.0 (f.0 p), λ r. f.1 (g.1 r))

pub both : {P Q R S : Type 0} → P ↔ Q → R ↔ S → (P × R) ↔ (Q × S)
both f g = (λ h. (f.0 h.0, g.0 h.1), λ h. (f.1 h.0, g.1 h.1))

pub each : {A : Type 0} (P Q : A → Type 0) → ((x : A) → P x ↔ Q x) → (xs : List A) → All P xs ↔ All Q xs
each P Q f xs = (λ h k d less. (f (get_or xs k d)).0 (h k d less), λ h k d less. (f (get_or xs k d)).1 (h k d less))

-- ---- what holds of all items

pub all_and : {A : Type 0} (P Q : A → Type 0) (xs : List A) → All (λ x. P x × Q x) xs ↔ (All P xs × All Q xs)
all_and P Q xs = (λ h. (λ k d less. (h k d less).0, λ k d less. (h k d less).1), λ h k d less. (h.0 k d less, h.1 k d less))

all_left : {A : Type 0} (P : A → Type 0) (xs ys : List A) → All P (xs ++ ys) → All P xs
all_left P [] ys h = All-nil P
all_left P (x ∷ xs) ys h = All-cons P x xs (All-head P x (xs ++ ys) h) (all_left P xs ys (All-tail P x (xs ++ ys) h))

all_right : {A : Type 0} (P : A → Type 0) (xs ys : List A) → All P (xs ++ ys) → All P ys
all_right P [] ys h = h
all_right P (x ∷ xs) ys h = all_right P xs ys (All-tail P x (xs ++ ys) h)

pub all_append : {A : Type 0} (P : A → Type 0) (xs ys : List A) → All P (xs ++ ys) ↔ (All P xs × All P ys)
all_append P xs ys = (λ h. (all_left P xs ys h, all_right P xs ys h), λ h. All-append P xs ys h.0 h.1)

of_mapped : {A B : Type 0} (P : B → Type 0) (f : A → B) (xs : List A) → All P (map f xs) → All (λ x. P (f x)) xs
of_mapped P f [] h = All-nil (λ x. P (f x))
of_mapped P f (x ∷ xs) h = All-cons (λ x. P (f x)) x xs (All-head P (f x) (map f xs) h) (of_mapped P f xs (All-tail P (f x) (map f xs) h))

pub all_map : {A B : Type 0} (P : B → Type 0) (f : A → B) (xs : List A) → All P (map f xs) ↔ All (λ x. P (f x)) xs
all_map P f xs = (of_mapped P f xs, All-map P f xs)

pub all_flat : {A B : Type 0} (P : B → Type 0) (f : A → List B) (xs : List A) → All P (flat_map f xs) ↔ All (λ x. All P (f x)) xs
all_flat P f [] = (λ h. All-nil (λ x. All P (f x)), λ h. All-nil P)
all_flat P f (x ∷ xs) = let rest : All P (flat_map f xs) ↔ All (λ x. All P (f x)) xs = all_flat P f xs in (
  λ h. All-cons (λ x. All P (f x)) x xs (all_left P (f x) (flat_map f xs) h) (rest.0 (all_right P (f x) (flat_map f xs) h)),
  λ h. All-append P (f x) (flat_map f xs) (All-head (λ x. All P (f x)) x xs h) (rest.1 (All-tail (λ x. All P (f x)) x xs h)),
)

pub all_swap : {A B : Type 0} (P : A → B → Type 0) (xs : List A) (ys : List B) → All (λ x. All (P x) ys) xs ↔ All (λ y. All (λ x. P x y) xs) ys
all_swap P xs ys = (λ h j e within k d less. h k d less j e within, λ h k d less j e within. h j e within k d less)

-- ---- each item and each later one

pub pairs_nil : {A : Type 0} (R : A → A → Type 0) → AllPairs R []
pairs_nil R i j d less within = absurd (omega arith)

pub pairs_head : {A : Type 0} (R : A → A → Type 0) (x : A) (xs : List A) → AllPairs R (x ∷ xs) → All (R x) xs
pairs_head R x xs all k d less = all 0 (suc k) d (omega arith) (omega arith)

pub pairs_tail : {A : Type 0} (R : A → A → Type 0) (x : A) (xs : List A) → AllPairs R (x ∷ xs) → AllPairs R xs
pairs_tail R x xs all i j d less within = all (suc i) (suc j) d (omega arith) (omega arith)

-- of two lists, one after the other
abbrev pub Across : {A : Type 0} → (A → A → Type 0) → List A → List A → Type 0
Across R xs ys = All (λ x. All (R x) ys) xs

pub pairs_append : {A : Type 0} (R : A → A → Type 0) (xs ys : List A) → AllPairs R (xs ++ ys) ↔ ((AllPairs R xs × AllPairs R ys) × Across R xs ys)
pairs_append R [] ys = (λ h. ((pairs_nil R, h), All-nil (λ x. All (R x) ys)), λ h. h.0.1)
pairs_append R (x ∷ xs) ys = let rest : AllPairs R (xs ++ ys) ↔ ((AllPairs R xs × AllPairs R ys) × Across R xs ys) = pairs_append R xs ys in (
  λ h. let first : All (R x) (xs ++ ys) = pairs_head R x (xs ++ ys) h in
      let more : (AllPairs R xs × AllPairs R ys) × Across R xs ys = rest.0 (pairs_tail R x (xs ++ ys) h) in
      ((AllPairs-cons R x xs (all_left (R x) xs ys first) more.0.0, more.0.1), All-cons (λ x. All (R x) ys) x xs (all_right (R x) xs ys first) more.1),
  λ h. AllPairs-cons R x (xs ++ ys) (All-append (R x) xs ys (pairs_head R x xs h.0.0) (All-head (λ x. All (R x) ys) x xs h.1))
      (rest.1 ((pairs_tail R x xs h.0.0, h.0.1), All-tail (λ x. All (R x) ys) x xs h.1)),
)

pub pairs_map : {A B : Type 0} (R : B → B → Type 0) (f : A → B) (xs : List A) → AllPairs R (map f xs) ↔ AllPairs (λ x y. R (f x) (f y)) xs
pairs_map R f [] = (λ h. pairs_nil (λ x y. R (f x) (f y)), λ h. pairs_nil R)
pairs_map R f (x ∷ xs) = let rest : AllPairs R (map f xs) ↔ AllPairs (λ x y. R (f x) (f y)) xs = pairs_map R f xs in (
  λ h. AllPairs-cons (λ x y. R (f x) (f y)) x xs ((all_map (R (f x)) f xs).0 (pairs_head R (f x) (map f xs) h)) (rest.0 (pairs_tail R (f x) (map f xs) h)),
  λ h. AllPairs-cons R (f x) (map f xs) ((all_map (R (f x)) f xs).1 (pairs_head (λ x y. R (f x) (f y)) x xs h)) (rest.1 (pairs_tail (λ x y. R (f x) (f y)) x xs h)),
)

-- of lists joined: inside each, and across each two
pub pairs_flat : {A B : Type 0} (R : B → B → Type 0) (f : A → List B) (xs : List A) → AllPairs R (flat_map f xs) ↔ (AllPairs (λ x y. Across R (f x) (f y)) xs × All (λ x. AllPairs R (f x)) xs)
pairs_flat R f [] = (λ h. (pairs_nil (λ x y. Across R (f x) (f y)), All-nil (λ x. AllPairs R (f x))), λ h. pairs_nil R)
pairs_flat R f (x ∷ xs) =
    let rest : AllPairs R (flat_map f xs) ↔ (AllPairs (λ x y. Across R (f x) (f y)) xs × All (λ x. AllPairs R (f x)) xs) = pairs_flat R f xs in
    let split : AllPairs R (f x ++ flat_map f xs) ↔ ((AllPairs R (f x) × AllPairs R (flat_map f xs)) × Across R (f x) (flat_map f xs)) = pairs_append R (f x) (flat_map f xs) in
    let over : Across R (f x) (flat_map f xs) ↔ All (λ y. Across R (f x) (f y)) xs = chain
    (each (λ t. All (R t) (flat_map f xs)) (λ t. All (λ y. All (R t) (f y)) xs) (λ t. all_flat (R t) f xs) (f x))
    (all_swap (λ t y. All (R t) (f y)) (f x) xs) in (
      λ h. let parts : (AllPairs R (f x) × AllPairs R (flat_map f xs)) × Across R (f x) (flat_map f xs) = split.0 h in
          let more : AllPairs (λ x y. Across R (f x) (f y)) xs × All (λ x. AllPairs R (f x)) xs = rest.0 parts.0.1 in
          (AllPairs-cons (λ x y. Across R (f x) (f y)) x xs (over.0 parts.1) more.0, All-cons (λ x. AllPairs R (f x)) x xs parts.0.0 more.1),
      λ h. split.1 (
        (All-head (λ x. AllPairs R (f x)) x xs h.1, rest.1 (pairs_tail (λ x y. Across R (f x) (f y)) x xs h.0, All-tail (λ x. AllPairs R (f x)) x xs h.1)),
        over.1 (pairs_head (λ x y. Across R (f x) (f y)) x xs h.0),
      ),
    )

-- ---- items after those before them

-- of the items alone
pub after_own : {A : Type 0} (P : A → Type 0) (seen xs : List A) → All (λ pair. P pair.1) (after_seen seen xs) ↔ All P xs
after_own P seen [] = (λ h. All-nil P, λ h. All-nil (λ pair. P pair.1))
after_own P seen (x ∷ xs) = let rest : All (λ pair. P pair.1) (after_seen (seen ++ x ∷ []) xs) ↔ All P xs = after_own P (seen ++ x ∷ []) xs in (
  λ h. All-cons P x xs (All-head (λ pair. P pair.1) (seen, x) (after_seen (seen ++ x ∷ []) xs) h) (rest.0 (All-tail (λ pair. P pair.1) (seen, x) (after_seen (seen ++ x ∷ []) xs) h)),
  λ h. All-cons (λ pair. P pair.1) (seen, x) (after_seen (seen ++ x ∷ []) xs) (All-head P x xs h) (rest.1 (All-tail P x xs h)),
)

-- of each two of them
abbrev AfterEach : {A : Type 0} → (A → A → Type 0) → List A × A → Type 0
AfterEach R pair = All (λ other. R other pair.1) pair.0

after_pairs : {A : Type 0} (R : A → A → Type 0) (seen xs : List A) → All (λ pair. All (λ other. R other pair.1) pair.0) (after_seen seen xs) ↔ (All (λ x. All (λ other. R other x) seen) xs × AllPairs R xs)
after_pairs R seen [] = (λ h. (All-nil (λ x. All (λ other. R other x) seen), pairs_nil R), λ h. All-nil (AfterEach R))
after_pairs R seen (x ∷ xs) =
    let rest : All (AfterEach R) (after_seen (seen ++ x ∷ []) xs) ↔ (All (λ y. All (λ other. R other y) (seen ++ x ∷ [])) xs × AllPairs R xs) = after_pairs R (seen ++ x ∷ []) xs in
    let split : All (λ y. All (λ other. R other y) (seen ++ x ∷ [])) xs ↔ All (λ y. All (λ other. R other y) seen × All (λ other. R other y) (x ∷ [])) xs =
    each (λ y. All (λ other. R other y) (seen ++ x ∷ [])) (λ y. All (λ other. R other y) seen × All (λ other. R other y) (x ∷ [])) (λ y. all_append (λ other. R other y) seen (x ∷ [])) xs in (
      λ h. let f : All (λ y. All (λ other. R other y) (seen ++ x ∷ [])) xs × AllPairs R xs = rest.0 (All-tail (AfterEach R) (seen, x) (after_seen (seen ++ x ∷ []) xs) h) in
          let g : All (λ y. All (λ other. R other y) seen × All (λ other. R other y) (x ∷ [])) xs = split.0 f.0 in (
            All-cons (λ y. All (λ other. R other y) seen) x xs (All-head (AfterEach R) (seen, x) (after_seen (seen ++ x ∷ []) xs) h) (λ k d less. (g k d less).0),
            AllPairs-cons R x xs (λ k d less. (g k d less).1 0 x (omega arith)) f.1,
          ),
      λ h. All-cons (AfterEach R) (seen, x) (after_seen (seen ++ x ∷ []) xs) (All-head (λ y. All (λ other. R other y) seen) x xs h.0)
          (rest.1 (
            split.1 (λ k d less. (All-tail (λ y. All (λ other. R other y) seen) x xs h.0 k d less, All-cons (λ other. R other (get_or xs k d)) x [] (pairs_head R x xs h.1 k d less) (All-nil (λ other. R other (get_or xs k d))))),
            pairs_tail R x xs h.1,
          )),
    )

pub after_each : {A : Type 0} (R : A → A → Type 0) (xs : List A) → All (λ pair. All (λ other. R other pair.1) pair.0) (after_seen [] xs) ↔ AllPairs R xs
after_each R xs = let f : All (AfterEach R) (after_seen [] xs) ↔ (All (λ x. All (λ other. R other x) []) xs × AllPairs R xs) = after_pairs R [] xs in
    (λ h. (f.0 h).1, λ h. f.1 (λ k d less. All-nil (λ other. R other (get_or xs k d)), h))

-- ---- how many there are

length_seen : {A : Type 0} (seen : List A) (x : A) → length (seen ++ x ∷ []) ≡ suc (length seen)
length_seen [] x = refl
length_seen (y ∷ seen) x = ap suc (length_seen seen x)

few_of : {A : Type 0} (n : ℕ) (seen xs : List A) → length seen ≤ n → All (λ pair. (length pair.0 == n) ≡ false) (after_seen seen xs) → length seen + length xs ≤ n
few_of n seen [] low all = omega arith
few_of n seen (x ∷ xs) low all =
    let other : length seen ≡ n → ⊥ = eqb-false (length seen) n (All-head (λ pair. (length pair.0 == n) ≡ false) (seen, x) (after_seen (seen ++ x ∷ []) xs) all) in
    let grown : length (seen ++ x ∷ []) ≡ suc (length seen) = length_seen seen x in
    let below : length seen < n = below_of (length seen) low other in
    let rest : length (seen ++ x ∷ []) + length xs ≤ n = few_of n (seen ++ x ∷ []) xs (omega (arith, grown)) (All-tail (λ pair. (length pair.0 == n) ≡ false) (seen, x) (after_seen (seen ++ x ∷ []) xs) all) in
    omega (arith, grown)
  where
    below_of : (m : ℕ) → m ≤ n → (m ≡ n → ⊥) → m < n
    below_of m le ne = elim (cases_lt m n) [ inl h ↦ h | inr h ↦ absurd (ne (omega arith)) ]

none_many : {A : Type 0} (n : ℕ) (seen xs : List A) → length seen + length xs ≤ n → All (λ pair. (length pair.0 == n) ≡ false) (after_seen seen xs)
none_many n seen [] few = All-nil (λ pair. (length pair.0 == n) ≡ false)
none_many n seen (x ∷ xs) few =
    let grown : length (seen ++ x ∷ []) ≡ suc (length seen) = length_seen seen x in
    let less : length seen < n = omega arith in
    let more : length (seen ++ x ∷ []) + length xs ≤ n = omega (arith, grown) in
    All-cons (λ pair. (length pair.0 == n) ≡ false) (seen, x) (after_seen (seen ++ x ∷ []) xs)
    (false_from_ne_true (length seen == n) (λ e. let same : length seen ≡ n = eqb-true (length seen) n e in omega (arith, same)))
    (none_many n (seen ++ x ∷ []) xs more)

-- no item comes after n others exactly where there are at most n
pub after_few : {A : Type 0} (n : ℕ) (xs : List A) → All (λ pair. (length pair.0 == n) ≡ false) (after_seen [] xs) ↔ (length xs ≤ n)
after_few {A} n xs = (
  λ all. let some : length {A = A} [] + length xs ≤ n = few_of n [] xs (omega arith) all in omega (arith, some),
  λ few. let some : length {A = A} [] + length xs ≤ n = omega arith in none_many n [] xs some,
)
