-- Open windows in another order: what comes to the front by its id is what comes there by its place.
use Rattle.std.proofs.Common.{◌≡◌, ◌≢◌, ℕ, zero, suc, ◌+◌, ◌<◌, Bool, true, false, cond, not, ◌==◌, List, [], ◌∷◌, ◌++◌, length, take, drop, reverse, filter, Some, All, AllPairs, refl, sym, ap, ◌∙◌, subst, arith}
use Rattle.std.specs.List.{remove, slice_get}
use Rattle.std.proofs.lemmas.Bool.{false≢true}
use Rattle.std.proofs.lemmas.Bool.Decides.{nat_tests}
use Rattle.std.proofs.lemmas.Grind.{reverse_onto}
use Rattle.std.proofs.lemmas.List.{append-nil, drop_all, drop_at, length_push, reverse-reverse, take_at}
use Rattle.std.proofs.lemmas.List.Elements.{All-append, All-cons, All-head, All-nil, All-push, All-tail, All-weaker}
use Rattle.std.proofs.lemmas.List.Kept.{AllPairs-cons, AllPairs-filter}
use Rattle.tv_group.specs.Stack.{raised_at}
use Rattle.tv_model.specs.declared.node.Id.{Id}
use Rattle.tv_machine.specs.State.{OpenWindow}
use Rattle.tv_machine.specs.Session.Commands.{last_first, raised as raised_by_id}
use Rattle.tv_machine.proofs.ListLemmas.{bool_cases, id-itself, pairs-head, pairs-tail}
use Rattle.tv_window.specs.Desk.{AreDistinct}
use Rattle.tv_window.proofs.PlaceLemmas.{all-got, got-within}

-- ---- lists

module _ {A : Type 0} where
  filter-none : (p : A → Bool) (xs : List A) → All (λ x. p x ≡ false) xs → filter p xs ≡ []
  filter-none p [] fails = refl
  filter-none p (x ∷ xs) fails =
      ap (λ b. cond b (x ∷ filter p xs) (filter p xs)) (All-head (λ y. p y ≡ false) x xs fails) ∙ filter-none p xs (All-tail (λ y. p y ≡ false) x xs fails)

  filter-all : (p : A → Bool) (xs : List A) → All (λ x. p x ≡ true) xs → filter p xs ≡ xs
  filter-all p [] passes = refl
  filter-all p (x ∷ xs) passes =
      ap (λ b. cond b (x ∷ filter p xs) (filter p xs)) (All-head (λ y. p y ≡ true) x xs passes)
      ∙ ap (λ ys. x ∷ ys) (filter-all p xs (All-tail (λ y. p y ≡ true) x xs passes))

  filter-passes : (p : A → Bool) (xs : List A) → All (λ x. p x ≡ true) (filter p xs)
  filter-passes p [] = All-nil (λ x. p x ≡ true)
  filter-passes p (x ∷ xs) =
      bool_cases (p x) (λ b. All (λ y. p y ≡ true) (cond b (x ∷ filter p xs) (filter p xs)))
      (λ is. All-cons (λ y. p y ≡ true) x (filter p xs) is (filter-passes p xs)) (λ is. filter-passes p xs)

  pairs-append : (R : A → A → Type 0) (xs ys : List A) → AllPairs R xs → AllPairs R ys → All (λ x. All (R x) ys) xs → AllPairs R (xs ++ ys)
  pairs-append R [] ys before after across = after
  pairs-append R (x ∷ xs) ys before after across =
      AllPairs-cons R x (xs ++ ys) (All-append (R x) xs ys (pairs-head R x xs before) (All-head (λ y. All (R y) ys) x xs across))
      (pairs-append R xs ys (pairs-tail R x xs before) after (All-tail (λ y. All (R y) ys) x xs across))

  all-reverse : (P : A → Type 0) (xs : List A) → All P xs → All P (reverse xs)
  all-reverse P [] all = all
  all-reverse P (x ∷ xs) all =
      subst (All P) (sym (reverse_onto xs x [])) (All-push P (reverse xs) x (all-reverse P xs (All-tail P x xs all)) (All-head P x xs all))

  pub pairs-reverse : (R : A → A → Type 0) → ((x y : A) → R x y → R y x) → (xs : List A) → AllPairs R xs → AllPairs R (reverse xs)
  pairs-reverse R swap [] pairs = pairs
  pairs-reverse R swap (x ∷ xs) pairs =
      subst (AllPairs R) (sym (reverse_onto xs x []))
      (pairs-append R (reverse xs) (x ∷ []) (pairs-reverse R swap xs (pairs-tail R x xs pairs)) (AllPairs-cons R x [] (All-nil (R x)) (λ i j d less within. absurd (omega (arith, less, within))))
      (All-weaker (R x) (λ y. All (R y) (x ∷ [])) (λ y r. All-cons (R y) x [] (swap x y r) (All-nil (R y))) (reverse xs) (all-reverse (R x) xs (pairs-head R x xs pairs))))

  -- the last comes to the front
  raised-last : (xs : List A) (x : A) → raised_at (xs ++ x ∷ []) (length xs) ≡ x ∷ xs
  raised-last xs x =
      ap (λ ys. take 1 ys ++ remove (xs ++ x ∷ []) (length xs)) (drop_at xs (x ∷ []) (length xs) refl)
      ∙ (ap (λ ys. (x ∷ []) ++ (ys ++ drop (suc (length xs)) (xs ++ x ∷ []))) (take_at xs (x ∷ []) (length xs) refl)
      ∙ (ap (λ ys. (x ∷ []) ++ (xs ++ ys)) (drop_all (suc (length xs)) (xs ++ x ∷ []) (omega (arith, length_push xs x)))
      ∙ ap (λ ys. x ∷ ys) (append-nil xs)))

-- ---- windows by their ids

-- whether a window has the id
abbrev has : Id → OpenWindow → Bool
has i w = w.id.0 == i.0

abbrev Differ : OpenWindow → OpenWindow → Type 0
Differ w other = w.id.0 ≢ other.id.0

pub numbers-differ : (a b : ℕ) → a ≢ b → (a == b) ≡ false
numbers-differ a b h = grind (arith, nat_tests)

other-lacks : (i : Id) (w : OpenWindow) → i.0 ≢ w.id.0 → has i w ≡ false
other-lacks i w apart = numbers-differ w.id.0 i.0 (λ e. apart (sym e))

others-lack : (w : OpenWindow) (behind : List OpenWindow) → AreDistinct (w ∷ behind) → All (λ other. has w.id other ≡ false) behind
others-lack w behind apart = All-weaker (Differ w) (λ other. has w.id other ≡ false) (λ other d. other-lacks w.id other d) behind (pairs-head Differ w behind apart)

front-lacks : (front : OpenWindow) (behind : List OpenWindow) (place : ℕ) (w : OpenWindow) → AreDistinct (front ∷ behind) → slice_get behind place ≡ Some w → has w.id front ≡ false
front-lacks front behind place w apart e = numbers-differ front.id.0 w.id.0 (all-got (Differ front) behind place w (pairs-head Differ front behind apart) e)

only-it : (stack : List OpenWindow) (place : ℕ) (w : OpenWindow) → AreDistinct stack → slice_get stack place ≡ Some w → filter (has w.id) stack ≡ take 1 (drop place stack)
only-it [] place w apart e = absurd cc
only-it (front ∷ behind) zero w apart e =
    let same : front ≡ w = cc in
    subst (λ v. filter (has v.id) (front ∷ behind) ≡ front ∷ []) same
    (ap (λ b. cond b (front ∷ filter (has front.id) behind) (filter (has front.id) behind)) (id-itself front.id)
    ∙ ap (λ ws. front ∷ ws) (filter-none (has front.id) behind (others-lack front behind apart)))
only-it (front ∷ behind) (suc place) w apart e =
    ap (λ b. cond b (front ∷ filter (has w.id) behind) (filter (has w.id) behind)) (front-lacks front behind place w apart e)
    ∙ only-it behind place w (pairs-tail Differ front behind apart) e

all-others : (stack : List OpenWindow) (place : ℕ) (w : OpenWindow) → AreDistinct stack → slice_get stack place ≡ Some w → filter (λ v. not (has w.id v)) stack ≡ remove stack place
all-others [] place w apart e = absurd cc
all-others (front ∷ behind) zero w apart e =
    let same : front ≡ w = cc in
    subst (λ v. filter (λ u. not (has v.id u)) (front ∷ behind) ≡ behind) same
    (ap (λ b. cond (not b) (front ∷ filter (λ u. not (has front.id u)) behind) (filter (λ u. not (has front.id u)) behind)) (id-itself front.id)
    ∙ filter-all (λ u. not (has front.id u)) behind
    (All-weaker (λ u. has front.id u ≡ false) (λ u. not (has front.id u) ≡ true) (λ u is. ap not is) behind (others-lack front behind apart)))
all-others (front ∷ behind) (suc place) w apart e =
    ap (λ b. cond (not b) (front ∷ filter (λ u. not (has w.id u)) behind) (filter (λ u. not (has w.id u)) behind)) (front-lacks front behind place w apart e)
    ∙ ap (λ ws. front ∷ ws) (all-others behind place w (pairs-tail Differ front behind apart) e)

-- the front window alone has its id
pub front-only : (front : OpenWindow) (behind : List OpenWindow) (place : ℕ) (w : OpenWindow) → AreDistinct (front ∷ behind) → slice_get behind place ≡ Some w → (front.id.0 == w.id.0) ≡ false
front-only front behind place w apart e = front-lacks front behind place w apart e

pub raised-at : (stack : List OpenWindow) (place : ℕ) (w : OpenWindow) → AreDistinct stack → slice_get stack place ≡ Some w → raised_by_id w.id stack ≡ raised_at stack place
raised-at stack place w apart e =
    ap (λ ws. ws ++ filter (λ v. not (has w.id v)) stack) (only-it stack place w apart e) ∙ ap (λ ws. take 1 (drop place stack) ++ ws) (all-others stack place w apart e)

-- ---- they stay apart

sides-differ : (i : Id) (w other : OpenWindow) → has i w ≡ true → not (has i other) ≡ true → Differ w other
sides-differ i w other is lacks e =
    let there : has i other ≡ true = ap (λ n. n == i.0) (sym e) ∙ is in
    false≢true (ap not (sym there) ∙ lacks)

apart-raised : (i : Id) (stack : List OpenWindow) → AreDistinct stack → AreDistinct (raised_by_id i stack)
apart-raised i stack apart =
    pairs-append Differ (filter (has i) stack) (filter (λ v. not (has i v)) stack) (AllPairs-filter Differ (has i) stack apart) (AllPairs-filter Differ (λ v. not (has i v)) stack apart)
    (All-weaker (λ w. has i w ≡ true) (λ w. All (Differ w) (filter (λ v. not (has i v)) stack))
    (λ w is. All-weaker (λ v. not (has i v) ≡ true) (Differ w) (λ v lacks. sides-differ i w v is lacks) (filter (λ v. not (has i v)) stack) (filter-passes (λ v. not (has i v)) stack))
    (filter (has i) stack) (filter-passes (has i) stack))

pub apart-at : (stack : List OpenWindow) (place : ℕ) → place < length stack → AreDistinct stack → AreDistinct (raised_at stack place)
apart-at stack place within apart =
    let found = got-within stack place within in
    subst AreDistinct (raised-at stack place found.0 apart found.1) (apart-raised found.0.id stack apart)

-- ---- the last one

pub last-raised : (stack : List OpenWindow) (place : ℕ) → place + 1 ≡ length stack → last_first (reverse stack) ≡ raised_at stack place
last-raised stack place e = by_last (reverse stack) (sym (reverse-reverse stack))
  where
    by_last : (back : List OpenWindow) → stack ≡ reverse back → last_first back ≡ raised_at stack place
    by_last [] is = absurd (omega (arith, e, ap length is))
    by_last (w ∷ behind) is =
        let whole : stack ≡ reverse behind ++ w ∷ [] = is ∙ reverse_onto behind w [] in
        let at : place ≡ length (reverse behind) = omega (arith, e, ap length whole, length_push (reverse behind) w) in
        sym (ap (λ ws. raised_at ws place) whole ∙ (ap (raised_at (reverse behind ++ w ∷ [])) at ∙ raised-last (reverse behind) w))
