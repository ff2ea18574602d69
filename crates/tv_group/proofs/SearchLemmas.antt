-- What a search through leaves comes to.
use Rattle.std.proofs.Common.{◌≡◌, ℕ, zero, suc, Bool, true, false, List, [], ◌∷◌, ◌++◌, ◌+◌, ◌-◌, ◌<◌, ◌≤◌, length, get_or, map, reverse, find, refl, sym, ap, ◌∙◌, Some, is_some, option_map, if◌then◌else◌, cond, arith}
use Rattle.std.proofs.lemmas.List.{get_or_default, map-append, reverse-append}
use Rattle.tv_cells.specs.declared.rect.Rect.{Rect}
use Rattle.tv_model.specs.declared.node.Id.{Id}
use Rattle.tv_view.specs.Meaning.{Leaf, Placed, alone, inside, kept, uncurrent}
use Rattle.tv_group.specs.Calls.{after_current, first_free_leaf, first_in, is_free_control, next_in, ordered}
use Rattle.tv_group.specs.Current.{is_at}
use Rattle.tv_group.specs.Opened.{opened, opened_member}
use Rattle.tv_group.specs.Searching.{found_in, looks_at, kth_place, searched, searched_on}
use Rattle.tv_group.specs.declared.focus.Dir.{Dir}
use Rattle.tv_group.specs.declared.focus.Dir.TheVariants as dirs
use Rattle.tv_group.specs.declared.search.Search.{Search}
use Rattle.tv_group.specs.declared.group.GroupOf.{GroupOf}
use Rattle.tv_group.specs.declared.group.MemberOf.{MemberOf}
use Rattle.tv_group.specs.declared.search.Search.TheVariants.{Before, Passed, Found}
use Rattle.tv_group.proofs.OpenedLemmas.{opened_to, opened_to-none, opened_to-more, opened_to-whole}

-- ---- the order of a direction

map-reverse : (f : Placed → Placed) (xs : List Placed) → reverse (map f xs) ≡ map f (reverse xs)
map-reverse f [] = refl
map-reverse f (x ∷ xs) =
    reverse-append (f x ∷ []) (map f xs) ∙ ap (λ l. l ++ f x ∷ []) (map-reverse f xs)
    ∙ sym (ap (map f) (reverse-append (x ∷ []) xs) ∙ map-append f (reverse xs) (x ∷ []))

ordered-map : (f : Placed → Placed) (dir : Dir) (xs : List Placed) → ordered dir (map f xs) ≡ map f (ordered dir xs)
ordered-map f dirs.Forward xs = refl
ordered-map f dirs.Backward xs = map-reverse f xs

pub ordered-kept : (dir : Dir) (b : Bool) (xs : List Placed) → ordered dir (kept b xs) ≡ kept b (ordered dir xs)
ordered-kept dir true xs = refl
ordered-kept dir false xs = ordered-map uncurrent dir xs

-- ---- a search

pub searched-append : (s : Search) (xs ys : List Placed) → searched s (xs ++ ys) ≡ searched (searched s xs) ys
searched-append s [] ys = refl
searched-append s (x ∷ xs) ys = searched-append (searched_on s x) xs ys

on-inside : (r : Rect) (s : Search) (x : Placed) → searched_on s (inside r x) ≡ searched_on s x
on-inside r Before x = refl
on-inside r Passed x = refl
on-inside r (Found id) x = refl

searched-map_inside : (r : Rect) (s : Search) (xs : List Placed) → searched s (map (inside r) xs) ≡ searched s xs
searched-map_inside r s [] = refl
searched-map_inside r s (x ∷ xs) = ap (λ t. searched t (map (inside r) xs)) (on-inside r s x) ∙ searched-map_inside r (searched_on s x) xs

pub searched-leaf : (s : Search) (dir : Dir) (leaf : Leaf) → searched_on s (alone leaf) ≡ searched s (ordered dir (alone leaf ∷ []))
searched-leaf s dirs.Forward leaf = refl
searched-leaf s dirs.Backward leaf = refl

-- a group's bounds don't matter
pub searched-inside : (r : Rect) (s : Search) (dir : Dir) (xs : List Placed)
    → searched s (ordered dir (map (inside r) xs)) ≡ searched s (ordered dir xs)
searched-inside r s dir xs = ap (searched s) (ordered-map (inside r) dir xs) ∙ searched-map_inside r s (ordered dir xs)

found-stays : (id : Id) (xs : List Placed) → searched (Found id) xs ≡ Found id
found-stays id [] = refl
found-stays id (x ∷ xs) = found-stays id xs

before-unmarked : (xs : List Placed) → searched Before (map uncurrent xs) ≡ Before
before-unmarked [] = refl
before-unmarked (x ∷ xs) = before-unmarked xs

-- past the current leaf marks don't matter
passed-step : (b : Bool) (id : Id) (xs : List Placed) → searched Passed (map uncurrent xs) ≡ searched Passed xs
    → searched (if b then Found id else Passed) (map uncurrent xs) ≡ searched (if b then Found id else Passed) xs
passed-step true id xs e = found-stays id (map uncurrent xs) ∙ sym (found-stays id xs)
passed-step false id xs e = e

passed-unmarked : (xs : List Placed) → searched Passed (map uncurrent xs) ≡ searched Passed xs
passed-unmarked [] = refl
passed-unmarked (x ∷ xs) = passed-step (is_free_control x.leaf) x.leaf.node.id xs (passed-unmarked xs)

-- a member that is looked at may keep its marks
looked-at : (s : Search) (b : Bool) (xs : List Placed) → looks_at s b ≡ true → searched s (kept b xs) ≡ searched s xs
looked-at s true xs h = refl
looked-at Before false xs h = cc
looked-at Passed false xs h = passed-unmarked xs
looked-at (Found id) false xs h = found-stays id (map uncurrent xs) ∙ sym (found-stays id xs)

pub searched-looked : (dir : Dir) (s : Search) (b : Bool) (xs : List Placed) → looks_at s b ≡ true
    → searched s (ordered dir (kept b xs)) ≡ searched s (ordered dir xs)
searched-looked dir s b xs h = ap (searched s) (ordered-kept dir b xs) ∙ looked-at s b (ordered dir xs) h

-- one that isn't changes nothing
passed-by : (s : Search) (b : Bool) (xs : List Placed) → looks_at s b ≡ false → searched s (kept b xs) ≡ s
passed-by Before true xs h = cc
passed-by Before false xs h = before-unmarked xs
passed-by Passed b xs h = cc
passed-by (Found id) b xs h = found-stays id (kept b xs)

pub searched-skipped : (dir : Dir) (s : Search) (b : Bool) (xs : List Placed) → looks_at s b ≡ false
    → searched s (ordered dir (kept b xs)) ≡ s
searched-skipped dir s b xs h = ap (searched s) (ordered-kept dir b xs) ∙ passed-by s b (ordered dir xs) h

-- ---- what it finds

free-step : (b : Bool) (x : Placed) (xs : List Placed) → found_in (searched Passed xs) ≡ first_free_leaf xs
    → found_in (searched (if b then Found x.leaf.node.id else Passed) xs)
    ≡ option_map (λ y. y.leaf.node.id) (cond b (Some x) (find (λ y. is_free_control y.leaf) xs))
free-step true x xs e = ap found_in (found-stays x.leaf.node.id xs)
free-step false x xs e = e

found-free : (xs : List Placed) → found_in (searched Passed xs) ≡ first_free_leaf xs
found-free [] = refl
found-free (x ∷ xs) = free-step (is_free_control x.leaf) x xs (found-free xs)

next-step : (b : Bool) (xs : List Placed) → found_in (searched Before xs) ≡ first_free_leaf (after_current xs)
    → found_in (searched (if b then Passed else Before) xs) ≡ first_free_leaf (if b then xs else after_current xs)
next-step true xs e = found-free xs
next-step false xs e = e

found-next : (xs : List Placed) → found_in (searched Before xs) ≡ first_free_leaf (after_current xs)
found-next [] = refl
found-next (x ∷ xs) = next-step x.is_current xs (found-next xs)

pub first-found : (dir : Dir) (xs : List Placed) → found_in (searched Passed (ordered dir xs)) ≡ first_in dir xs
unfolding first_in
first-found dir xs = found-free (ordered dir xs)

pub next-found : (dir : Dir) (xs : List Placed) → found_in (searched Before (ordered dir xs)) ≡ next_in dir xs
unfolding next_in
next-found dir xs = found-next (ordered dir xs)

-- ---- the loop: forward it has gone through the members before the k-th, backward the last k of them

module _ {V : Type 0} (look : V → Leaf) where
  abbrev pub Sought : Dir → Search → Search → ℕ → GroupOf V → Type 0
  Sought dirs.Forward from s k g = s ≡ searched from (opened_to look g.current k g.members.items)
  Sought dirs.Backward from s k g =
      searched from (reverse (opened_to look g.current (length g.members.items) g.members.items))
      ≡ searched s (reverse (opened_to look g.current (length g.members.items - k) g.members.items))

  pub sought-none : (dir : Dir) (from : Search) (g : GroupOf V) → Sought dir from from 0 g
  sought-none dirs.Forward from g = sym (ap (searched from) (opened_to-none look g.current g.members.items))
  sought-none dirs.Backward from g =
      let none : length g.members.items ≡ length g.members.items - 0 = omega arith in
      ap (λ n. searched from (reverse (opened_to look g.current n g.members.items))) none

  -- a search that comes from a member's leaves to others
  sought-next : (dir : Dir) (from s t : Search) (k : ℕ) (g : GroupOf V) (m : MemberOf V) → k < length g.members.items
      → m ≡ get_or g.members.items (kth_place dir k (length g.members.items)) m
      → t ≡ searched s (ordered dir (kept (is_at g.current (kth_place dir k (length g.members.items))) (opened_member look m)))
      → Sought dir from s k g → Sought dir from t (k + 1) g
  sought-next dirs.Forward from s t k g m h is told before =
      told ∙ ap (λ u. searched u (kept (is_at g.current k) (opened_member look m))) before
      ∙ sym (searched-append from (opened_to look g.current k g.members.items) (kept (is_at g.current k) (opened_member look m)))
      ∙ sym (ap (searched from) (opened_to-more look g.current k g.members.items m h is))
  sought-next dirs.Backward from s t k g m h is told before =
      let n = length g.members.items in let i = length g.members.items - 1 - k in
      let left : n - k ≡ i + 1 = omega arith in
      let later : i ≡ n - (k + 1) = omega arith in
      let within : i < n = omega arith in
      before
      ∙ ap (λ j. searched s (reverse (opened_to look g.current j g.members.items))) left
      ∙ ap (λ l. searched s (reverse l)) (opened_to-more look g.current i g.members.items m within is)
      ∙ ap (searched s) (reverse-append (opened_to look g.current i g.members.items) (kept (is_at g.current i) (opened_member look m)))
      ∙ searched-append s
      (reverse (kept (is_at g.current i) (opened_member look m))) (reverse (opened_to look g.current i g.members.items))
      ∙ ap (λ u. searched u (reverse (opened_to look g.current i g.members.items))) (sym told)
      ∙ ap (λ j. searched t (reverse (opened_to look g.current j g.members.items))) later

  pub sought-looked : (dir : Dir) (from s t : Search) (k : ℕ) (g : GroupOf V) (m : MemberOf V) → k < length g.members.items
      → m ≡ get_or g.members.items (kth_place dir k (length g.members.items)) m
      → looks_at s (is_at g.current (kth_place dir k (length g.members.items))) ≡ true → t ≡ searched s (ordered dir (opened_member look m))
      → Sought dir from s k g → Sought dir from t (k + 1) g
  sought-looked dir from s t k g m h is looks told before =
      let i = kth_place dir k (length g.members.items) in
      sought-next dir from s t k g m h is (told ∙ sym (searched-looked dir s (is_at g.current i) (opened_member look m) looks)) before

  place-within : (dir : Dir) (k n : ℕ) → k < n → kth_place dir k n < n
  place-within dirs.Forward k n h = h
  place-within dirs.Backward k n h = omega arith

  -- a member that is passed by isn't read, but there is one
  sought-past : (dir : Dir) (from s t : Search) (k : ℕ) (g : GroupOf V) (ms : List (MemberOf V)) → g.members.items ≡ ms
      → k < length g.members.items
      → looks_at s (is_at g.current (kth_place dir k (length g.members.items))) ≡ false → t ≡ s
      → Sought dir from s k g → Sought dir from t (k + 1) g
  sought-past dir from s t k g [] same h looks is before = absurd (omega (arith, ap length same))
  sought-past dir from s t k g (x ∷ xs) same h looks is before =
      let i = kth_place dir k (length g.members.items) in let m = get_or g.members.items i x in
      sought-next dir from s t k g m h (get_or_default g.members.items i x m (place-within dir k (length g.members.items) h))
      (is ∙ sym (searched-skipped dir s (is_at g.current i) (opened_member look m) looks)) before

  pub sought-skipped : (dir : Dir) (from s t : Search) (k : ℕ) (g : GroupOf V) → k < length g.members.items
      → looks_at s (is_at g.current (kth_place dir k (length g.members.items))) ≡ false → t ≡ s
      → Sought dir from s k g → Sought dir from t (k + 1) g
  sought-skipped dir from s t k g h looks is before = sought-past dir from s t k g g.members.items refl h looks is before

  pub sought-all : (dir : Dir) (from s : Search) (k : ℕ) (g : GroupOf V) → length g.members.items ≤ k → Sought dir from s k g
      → s ≡ searched from (ordered dir (opened look g))
  sought-all dirs.Forward from s k g h before =
      before ∙ sym (searched-inside g.bounds from dirs.Forward (opened_to look g.current k g.members.items))
      ∙ ap (searched from) (opened_to-whole look g k h)
  sought-all dirs.Backward from s k g h before =
      let n = length g.members.items in
      let none : n - k ≡ 0 = omega arith in
      let all : n ≤ n = omega arith in
      sym (ap (λ l. searched from (reverse l)) (sym (opened_to-whole look g n all))
      ∙ searched-inside g.bounds from dirs.Backward (opened_to look g.current n g.members.items)
      ∙ before
      ∙ ap (λ j. searched s (reverse (opened_to look g.current j g.members.items))) none
      ∙ ap (λ l. searched s (reverse l)) (opened_to-none look g.current g.members.items))

  -- behind a find nothing is looked at
  sought-behind : (dir : Dir) (from : Search) (id : Id) (j k : ℕ) (g : GroupOf V) → k + j ≡ length g.members.items → Sought dir from (Found id) k g
      → Found id ≡ searched from (ordered dir (opened look g))
  sought-behind dir from id zero k g count before = sought-all dir from (Found id) k g (omega arith) before
  sought-behind dir from id (suc j) k g count before =
      sought-behind dir from id j (k + 1) g (omega arith) (sought-skipped dir from (Found id) (Found id) k g (omega arith) refl refl before)

  pub sought-found : (dir : Dir) (from s : Search) (k : ℕ) (g : GroupOf V) → is_some (found_in s) ≡ true → k ≤ length g.members.items
      → Sought dir from s k g → s ≡ searched from (ordered dir (opened look g))
  sought-found dir from Before k g found h before = cc
  sought-found dir from Passed k g found h before = cc
  sought-found dir from (Found id) k g found h before = sought-behind dir from id (length g.members.items - k) k g (omega arith) before
