-- The declaration on a line, by its place.
use Rattle.std.proofs.Common.{◌≡◌, ℕ, ◌<◌, ◌≤◌, ◌==◌, Bool, true, false, cond, All, Some, None, ◌+◌, List, Option, [], ◌∷◌, ◌++◌, take, map, reverse, length, get_or, refl, sym, ap, subst, ◌∙◌, nat_lt, arith}
use Rattle.std.specs.List.{before_first, find, position, position_or_len, slice_get}
use Rattle.std.specs.List.Sorted.{IsNonDecreasingBy, IsPartitionPoint}
use Rattle.std.specs.Option.{option_and_then, option_map, unwrap_or}
use Rattle.std.proofs.lemmas.List.{get_or_default, map-append}
use mathlib.Core.List.{reverse-cons}
use Rattle.std.proofs.lemmas.List.Elements.{All-get_or}
use Rattle.std.proofs.lemmas.List.Folds.{find_at}
use Rattle.std.proofs.lemmas.List.Sorted.{All-permutation, IsPermutation-reverse}
use Rattle.std.proofs.lemmas.List.Sums.{position_or_len_is}
use Rattle.std.proofs.lemmas.Option.{slice_get-get_or, slice_get_past, slice_get_read, slice_get_within}
use Rattle.std.proofs.lemmas.Bool.{cases_lt, cond-false, cond-true, eq-eqb, le-ltb, lt-ltb, ltb-false, ne_eqb}
use Rattle.std.proofs.lemmas.Bool.Decides.{Decides-ltb}
use mathlib.Core.Logic.{⊎_elim}
use Rattle.tv_explain.specs.Lines.{first_after}

some_if : (b : Bool) (n at : ℕ) → cond b (Some n) None ≡ Some at → (b ≡ true) × (n ≡ at)
some_if true n at e = (refl, cc)
some_if false n at e = cc

none_if : (b : Bool) (n : ℕ) → cond b (Some n) None ≡ None → b ≡ false
none_if true n e = cc
none_if false n e = refl

-- the item at the first place that passes, with those before it
pub found_there : {A : Type 0} (p : A → Bool) (xs : List A) (at : ℕ) (x : A) → position p xs ≡ Some at → x ≡ get_or xs at x → Some (take at xs, x) ≡ first_after p xs
found_there {A} p xs at x e is =
    let there = some_if (nat_lt (position_or_len p xs) (length xs)) (position_or_len p xs) at e in
    let less : at < length xs = omega (arith, there.1, (Decides-ltb (position_or_len p xs) (length xs)).0 there.0) in
    let found : find p xs ≡ Some x = find_at p xs ∙ ap (slice_get xs) there.1 ∙ slice_get_read xs (length xs) at x refl less is in
    ap (λ (n : ℕ). Some (take n xs, x)) (sym there.1) ∙ ap (option_map (λ (item : A). (before_first p xs, item))) (sym found)

-- the same, of a list that is this one
pub found_of : {A : Type 0} (p : A → Bool) (xs ys : List A) → ys ≡ xs → (at : ℕ) (x : A) → position p xs ≡ Some at → x ≡ get_or ys at x → Some (take at ys, x) ≡ first_after p xs
found_of {A} p xs ys same at x e is =
    subst (λ (zs : List A). Some (take at ys, x) ≡ first_after p zs) same (found_there p ys at x (ap (position p) same ∙ e) is)

pub found_at : {A : Type 0} (p : A → Bool) (xs : List A) (at : ℕ) (d : A) → position p xs ≡ Some at → Some (take at xs, get_or xs at d) ≡ first_after p xs
found_at {A} p xs at d e =
    let there = some_if (nat_lt (position_or_len p xs) (length xs)) (position_or_len p xs) at e in
    let less : at < length xs = omega (arith, there.1, (Decides-ltb (position_or_len p xs) (length xs)).0 there.0) in
    let found : find p xs ≡ Some (get_or xs at d) = find_at p xs ∙ ap (slice_get xs) there.1 ∙ slice_get-get_or xs at d less in
    ap (λ (n : ℕ). Some (take n xs, get_or xs at d)) (sym there.1) ∙ ap (option_map (λ (item : A). (before_first p xs, item))) (sym found)

-- nothing passes
pub found_nowhere : {A : Type 0} (p : A → Bool) (xs : List A) → position p xs ≡ None → None ≡ first_after p xs
found_nowhere {A} p xs e =
    let past : length xs ≤ position_or_len p xs = ltb-false (position_or_len p xs) (length xs) (none_if (nat_lt (position_or_len p xs) (length xs)) (position_or_len p xs) e) in
    let none : find p xs ≡ None = find_at p xs ∙ slice_get_past xs (position_or_len p xs) past in
    ap (option_map (λ (item : A). (before_first p xs, item))) (sym none)

-- ---- lists in the order of their lines

-- up to a place the lines don't fall
abbrev pub RisesTo : {A : Type 0} → (A → ℕ) → List A → ℕ → Type 0
RisesTo {A} number xs at = (i j : ℕ) (item : A) → i ≤ j → j < at → number (get_or xs i item) ≤ number (get_or xs j item)

-- and none is behind a line
abbrev pub LiesBefore : {A : Type 0} → (A → ℕ) → List A → ℕ → ℕ → Type 0
LiesBefore {A} number xs at line = (k : ℕ) (item : A) → k < at → number (get_or xs k item) ≤ line

same_line : {A : Type 0} (number : A → ℕ) (xs : List A) (at : ℕ) (x item : A) → at < length xs → x ≡ get_or xs at x → number (get_or xs at item) ≡ number x
same_line number xs at x item less is = ap number (get_or_default xs at item x less ∙ sym is)

pub rises_more : {A : Type 0} (number : A → ℕ) (xs : List A) (at last : ℕ) (x : A) → at < length xs → x ≡ get_or xs at x
    → RisesTo number xs at → LiesBefore number xs at last → last ≤ number x → RisesTo number xs (at + 1)
rises_more {A} number xs at last x less is rises before le i j item ij below =
    let there : number (get_or xs at item) ≡ number x = same_line number xs at x item less is in
    ⊎_elim
    (λ inside. rises i j item ij inside)
    (λ here.
    let second : number (get_or xs j item) ≡ number x = ap (λ (n : ℕ). number (get_or xs n item)) (omega arith) ∙ there in
    ⊎_elim
    (λ earlier. omega (arith, before i item earlier, le, second))
    (λ same. let first : number (get_or xs i item) ≡ number x = ap (λ (n : ℕ). number (get_or xs n item)) (omega arith) ∙ there in omega (arith, first, second))
    (cases_lt i at))
    (cases_lt j at)

pub before_more : {A : Type 0} (number : A → ℕ) (xs : List A) (at last : ℕ) (x : A) → at < length xs → x ≡ get_or xs at x
    → LiesBefore number xs at last → last ≤ number x → LiesBefore number xs (at + 1) (number x)
before_more {A} number xs at last x less is before le k item below =
    ⊎_elim
    (λ earlier. omega (arith, before k item earlier, le))
    (λ same. let there : number (get_or xs k item) ≡ number x = ap (λ (n : ℕ). number (get_or xs n item)) (omega arith) ∙ same_line number xs at x item less is in omega (arith, there))
    (cases_lt k at)

-- where lines are below up to a place, and the declaration at that place is on the line, that is its place
pub placed : {A : Type 0} (number : A → ℕ) (line at : ℕ) (xs : List A) (x : A)
    → IsPartitionPoint (λ item. number item < line) (λ item. line ≤ number item) xs at
    → at < length xs → x ≡ get_or xs at x → number x ≡ line → Some at ≡ position (λ item. number item == line) xs
placed {A} number line at xs x parted less there is =
    let on : number (get_or xs at x) ≡ line = ap number (sym there) ∙ is in
    let first : position_or_len (λ (item : A). number item == line) xs ≡ at = position_or_len_is (λ (item : A). number item == line) xs at x (omega (arith, less)) (λ k lt. ne_eqb _ _ (λ same. omega (arith, parted.0 k x (omega arith) lt, same))) (λ lt. eq-eqb _ _ on) in
    subst (λ (n : ℕ). Some at ≡ cond (nat_lt n (length xs)) (Some n) None) (sym first) (sym (cond-true (nat_lt at (length xs)) (Some at) None (lt-ltb at (length xs) less)))

-- where it is on another line, or there is none, no declaration is on the line
unplaced : {A : Type 0} (number : A → ℕ) (line at : ℕ) (xs : List A)
    → IsNonDecreasingBy number xs → IsPartitionPoint (λ item. number item < line) (λ item. line ≤ number item) xs at
    → ((d : A) → at < length xs → number (get_or xs at d) ≡ line → ⊥) → None ≡ position (λ item. number item == line) xs
unplaced number line at [] rises parted other = refl
unplaced {A} number line at (x ∷ xs) rises parted other =
    let all : List A = x ∷ xs in
    let none : position_or_len (λ (item : A). number item == line) all ≡ length all = position_or_len_is (λ (item : A). number item == line) all (length all) x (omega arith)
    (λ k lt. ne_eqb _ _ (λ same. ⊎_elim
    (λ early. omega (arith, parted.0 k x (omega arith) early, same))
    (λ late. other x (omega arith) (omega (arith, rises at k x late lt, parted.1 at x (omega arith) (omega arith), same)))
    (cases_lt k at)))
    (λ lt. absurd (omega (arith, lt))) in
    subst (λ (n : ℕ). None ≡ cond (nat_lt n (length all)) (Some n) None) (sym none) (sym (cond-false (nat_lt (length all) (length all)) (Some (length all)) None (le-ltb (length all) (length all) (omega arith))))

pub unplaced_other : {A : Type 0} (number : A → ℕ) (line at : ℕ) (xs : List A) (x : A)
    → IsNonDecreasingBy number xs → IsPartitionPoint (λ item. number item < line) (λ item. line ≤ number item) xs at
    → x ≡ get_or xs at x → (number x ≡ line → ⊥) → None ≡ position (λ item. number item == line) xs
unplaced_other number line at xs x rises parted there other =
    unplaced number line at xs rises parted (λ d less on. other (ap number (there ∙ get_or_default xs at x d less) ∙ on))

pub unplaced_past : {A : Type 0} (number : A → ℕ) (line at : ℕ) (xs : List A)
    → IsNonDecreasingBy number xs → IsPartitionPoint (λ item. number item < line) (λ item. line ≤ number item) xs at
    → length xs ≤ at → None ≡ position (λ item. number item == line) xs
unplaced_past number line at xs rises parted past =
    unplaced number line at xs rises parted (λ d less on. omega (arith, less, past))

-- what is found among those of which all have a property has it
pub found_has : {A : Type 0} (P : A → Type 0) (p : A → Bool) (xs : List A) (x : A) → Some x ≡ find p (reverse xs) → All P xs → P x
found_has {A} P p xs x e all =
    let at : ℕ = position_or_len p (reverse xs) in
    let read : slice_get (reverse xs) at ≡ Some x = sym (find_at p (reverse xs)) ∙ sym e in
    let within : at < length (reverse xs) = slice_get_within (reverse xs) at x read in
    let there : get_or (reverse xs) at x ≡ x = ap (λ o. unwrap_or o x) (sym (slice_get-get_or (reverse xs) at x within) ∙ read) in
    subst P there (All-get_or P (reverse xs) at x within (All-permutation P xs (reverse xs) (IsPermutation-reverse xs) all))

-- ---- dialogs with what their views share

and_then_map : {A B C : Type 0} (g : B → Option C) (f : A → B) (o : Option A) → option_and_then g (option_map f o) ≡ option_and_then (λ x. g (f x)) o
and_then_map g f None = refl
and_then_map g f (Some x) = refl

map_reverse : {A B : Type 0} (f : A → B) (xs : List A) → reverse (map f xs) ≡ map f (reverse xs)
map_reverse f [] = refl
map_reverse f (x ∷ xs) = reverse-cons (f x) (map f xs) ∙ ap (λ ys. ys ++ f x ∷ []) (map_reverse f xs) ∙ sym (map-append f (reverse xs) (x ∷ [])) ∙ ap (map f) (sym (reverse-cons x xs))

find_map : {A B : Type 0} (f : A → B) (p : B → Bool) (xs : List A) → find p (map f xs) ≡ option_map f (find (λ x. p (f x)) xs)
find_map f p [] = refl
find_map f p (x ∷ xs) = by_test (p (f x)) (find_map f p xs)
  where
    by_test : (b : Bool) → find p (map f xs) ≡ option_map f (find (λ x. p (f x)) xs) → cond b (Some (f x)) (find p (map f xs)) ≡ option_map f (cond b (Some x) (find (λ x. p (f x)) xs))
    by_test true e = refl
    by_test false e = e

-- what is found last among images is the image of what is found last
pub found_image : {A B C : Type 0} (g : B → Option C) (f : A → B) (p : B → Bool) (xs : List A) (o : Option B)
    → o ≡ find p (reverse (map f xs)) → option_and_then g o ≡ option_and_then (λ x. g (f x)) (find (λ x. p (f x)) (reverse xs))
found_image g f p xs o e =
    ap (option_and_then g) (e ∙ ap (find p) (map_reverse f xs) ∙ find_map f p (reverse xs)) ∙ and_then_map g f (find (λ x. p (f x)) (reverse xs))
