-- Lists that are filtered, mapped and turned round.
use Rattle.std.proofs.Common.{◌≡◌, Bool, true, false, cond, List, [], ◌∷◌, ◌++◌, map, reverse, refl, sym, ap, ◌∙◌}
use Rattle.std.specs.List.{filter}
use Rattle.std.proofs.lemmas.Grind.{reverse_onto}

filter_within : {X : Type 0} (p q : X → Bool) (x : X) (xs : List X) (c b : Bool) → p x ≡ c → (c ≡ true → b ≡ true)
    → filter p (filter q xs) ≡ filter p xs
    → filter p (cond b (x ∷ filter q xs) (filter q xs)) ≡ cond c (x ∷ filter p xs) (filter p xs)
filter_within p q x xs true true e weaker same =
    ap (λ d. cond d (x ∷ filter p (filter q xs)) (filter p (filter q xs))) e ∙ ap (λ t. x ∷ t) same
filter_within p q x xs true false e weaker same = absurd (let f : false ≡ true = weaker refl in cc)
filter_within p q x xs false true e weaker same = ap (λ d. cond d (x ∷ filter p (filter q xs)) (filter p (filter q xs))) e ∙ same
filter_within p q x xs false false e weaker same = same

-- a weaker test before a test changes nothing
pub filter-weaker : {X : Type 0} (p q : X → Bool) → ((x : X) → p x ≡ true → q x ≡ true) → (xs : List X)
    → filter p (filter q xs) ≡ filter p xs
filter-weaker p q weaker [] = refl
filter-weaker p q weaker (x ∷ xs) = filter_within p q x xs (p x) (q x) refl (weaker x) (filter-weaker p q weaker xs)

filter_onto : {X : Type 0} (p q : X → Bool) (x : X) (xs : List X) (c b : Bool) → q x ≡ b → (c ≡ true → b ≡ true)
    → filter q (filter p xs) ≡ filter p xs
    → filter q (cond c (x ∷ filter p xs) (filter p xs)) ≡ cond c (x ∷ filter p xs) (filter p xs)
filter_onto p q x xs true b e weaker same =
    ap (λ d. cond d (x ∷ filter q (filter p xs)) (filter q (filter p xs))) (e ∙ weaker refl) ∙ ap (λ t. x ∷ t) same
filter_onto p q x xs false b e weaker same = same

-- nor does one behind it
pub filter-stronger : {X : Type 0} (p q : X → Bool) → ((x : X) → p x ≡ true → q x ≡ true) → (xs : List X)
    → filter q (filter p xs) ≡ filter p xs
filter-stronger p q weaker [] = refl
filter-stronger p q weaker (x ∷ xs) = filter_onto p q x xs (p x) (q x) refl (weaker x) (filter-stronger p q weaker xs)

map_cond : {A B : Type 0} (f : A → B) (b : Bool) (x : A) (xs : List A) → map f (cond b (x ∷ xs) xs) ≡ cond b (f x ∷ map f xs) (map f xs)
map_cond f true x xs = refl
map_cond f false x xs = refl

pub filter-map : {A B : Type 0} (f : A → B) (p : B → Bool) (q : A → Bool) → ((x : A) → p (f x) ≡ q x) → (xs : List A)
    → filter p (map f xs) ≡ map f (filter q xs)
filter-map f p q same [] = refl
filter-map f p q same (x ∷ xs) =
    ap (λ b. cond b (f x ∷ filter p (map f xs)) (filter p (map f xs))) (same x)
    ∙ ap (λ t. cond (q x) (f x ∷ t) t) (filter-map f p q same xs)
    ∙ sym (map_cond f (q x) x (filter q xs))

pub map-snoc : {A B : Type 0} (f : A → B) (xs : List A) (y : A) → map f (xs ++ (y ∷ [])) ≡ map f xs ++ (f y ∷ [])
map-snoc f [] y = refl
map-snoc f (x ∷ xs) y = ap (λ t. f x ∷ t) (map-snoc f xs y)

pub reverse-step : {A : Type 0} (x : A) (xs : List A) → reverse (x ∷ xs) ≡ reverse xs ++ (x ∷ [])
reverse-step x xs = reverse_onto xs x []

pub map-reverse : {A B : Type 0} (f : A → B) (xs : List A) → map f (reverse xs) ≡ reverse (map f xs)
map-reverse f [] = refl
map-reverse f (x ∷ xs) =
    ap (map f) (reverse-step x xs) ∙ map-snoc f (reverse xs) x ∙ ap (λ t. t ++ (f x ∷ [])) (map-reverse f xs)
    ∙ sym (reverse-step (f x) (map f xs))

pub map-same : {A B : Type 0} (f g : A → B) → ((x : A) → f x ≡ g x) → (xs : List A) → map f xs ≡ map g xs
map-same f g same [] = refl
map-same f g same (x ∷ xs) = ap (λ y. y ∷ map f xs) (same x) ∙ ap (λ t. g x ∷ t) (map-same f g same xs)

pub map-then : {A B C : Type 0} (f : A → B) (g : B → C) (xs : List A) → map g (map f xs) ≡ map (λ x. g (f x)) xs
map-then f g [] = refl
map-then f g (x ∷ xs) = ap (λ t. g (f x) ∷ t) (map-then f g xs)
