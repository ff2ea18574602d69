-- The leaves of members, split at one of them, and of members one of which was written.
use Rattle.std.proofs.Common.{◌≡◌, ℕ, List, [], ◌∷◌, ◌++◌, ◌+◌, ◌<◌, ◌≤◌, length, get_or, take, drop, map, set, refl, sym, ap, ◌∙◌, arith, Option}
use Rattle.std.proofs.lemmas.List.{drop_all, drop-set, length-set, length-take-le, set-get_or, take-append-drop, take-set, take_all}
use Rattle.std.proofs.Math.Seq.{map-set_same}
use Rattle.tv_view.specs.Meaning.{Leaf, Placed, inside, kept}
use Rattle.tv_group.specs.Current.{is_at}
use Rattle.tv_group.specs.Opened.{opened, opened_member, joined}
use Rattle.tv_group.specs.declared.group.MemberOf.{MemberOf}
use Rattle.tv_group.specs.declared.group.GroupOf.{GroupOf}
use Rattle.tv_group.proofs.OpenedLemmas.{joined-append, length_map, opened-members, opened_to}

map_append : {A B : Type 0} (f : A → B) (xs ys : List A) → map f (xs ++ ys) ≡ map f xs ++ map f ys
map_append f [] ys = refl
map_append f (x ∷ xs) ys = ap (λ t. f x ∷ t) (map_append f xs ys)

module _ {V : Type 0} (look : V → Leaf) where
  -- the leaves of all members, seen from the group's corner
  unfoldable pub leaves_of : Option ℕ → List (MemberOf V) → List Placed
  leaves_of current ms = joined current 0 (map (opened_member look) ms)

  -- those of the members from the i-th on
  unfoldable pub opened_from : Option ℕ → ℕ → List (MemberOf V) → List Placed
  opened_from current i ms = joined current i (map (opened_member look) (drop i ms))

  pub opened-leaves : (g : GroupOf V) → opened look g ≡ map (inside g.bounds) (leaves_of g.current g.members.items)
  unfolding leaves_of
  opened-leaves g = opened-members look g

  pub opened_from-end : (current : Option ℕ) (i : ℕ) (ms : List (MemberOf V)) → length ms ≤ i → opened_from current i ms ≡ []
  unfolding opened_from
  opened_from-end current i ms h = ap (λ xs. joined current i (map (opened_member look) xs)) (drop_all i ms h)

  pub opened_from-all : (current : Option ℕ) (ms : List (MemberOf V)) → opened_from current 0 ms ≡ leaves_of current ms
  unfolding opened_from leaves_of
  opened_from-all current ms = refl

  pub opened_to-all : (current : Option ℕ) (i : ℕ) (ms : List (MemberOf V)) → length ms ≤ i
      → opened_to look current i ms ≡ leaves_of current ms
  unfolding opened_to leaves_of
  opened_to-all current i ms h = ap (λ l. joined current 0 (map (opened_member look) l)) (take_all i ms h)

  -- member i was written
  pub opened_from-written : (current : Option ℕ) (i : ℕ) (ms : List (MemberOf V)) (m : MemberOf V) → i < length ms
      → opened_from current i (set ms i m) ≡ kept (is_at current i) (opened_member look m) ++ opened_from current (i + 1) ms
  unfolding opened_from
  opened_from-written current i ms m h = ap (λ l. joined current i (map (opened_member look) l)) (drop-set ms i m h)

  opened-split : (current : Option ℕ) (i : ℕ) (ms : List (MemberOf V)) → i ≤ length ms
      → leaves_of current ms ≡ opened_to look current i ms ++ opened_from current i ms
  unfolding leaves_of opened_to opened_from
  opened-split current i ms h =
      let e : length (map (opened_member look) (take i ms)) ≡ i = length_map (opened_member look) (take i ms) ∙ length-take-le i ms h in
      let n : 0 + length (map (opened_member look) (take i ms)) ≡ i = omega arith in
      ap (λ l. joined current 0 (map (opened_member look) l)) (sym (take-append-drop i ms))
      ∙ ap (joined current 0) (map_append (opened_member look) (take i ms) (drop i ms))
      ∙ joined-append current 0 (map (opened_member look) (take i ms)) (map (opened_member look) (drop i ms))
      ∙ ap (λ k. joined current 0 (map (opened_member look) (take i ms)) ++ joined current k (map (opened_member look) (drop i ms))) n

  opened_to-written : (current : Option ℕ) (i : ℕ) (ms : List (MemberOf V)) (m : MemberOf V)
      → opened_to look current i (set ms i m) ≡ opened_to look current i ms
  unfolding opened_to
  opened_to-written current i ms m = ap (λ l. joined current 0 (map (opened_member look) l)) (take-set ms i m)

  pub leaves-written : (current : Option ℕ) (i : ℕ) (ms : List (MemberOf V)) (m : MemberOf V) → i < length ms
      → leaves_of current (set ms i m)
      ≡ opened_to look current i ms ++ (kept (is_at current i) (opened_member look m) ++ opened_from current (i + 1) ms)
  leaves-written current i ms m h =
      let le : i ≤ length (set ms i m) = omega (arith, length-set ms i m) in
      opened-split current i (set ms i m) le
      ∙ ap (λ t. t ++ opened_from current i (set ms i m)) (opened_to-written current i ms m)
      ∙ ap (λ t. opened_to look current i ms ++ t) (opened_from-written current i ms m h)

  -- member i among them
  pub leaves-split : (current : Option ℕ) (i : ℕ) (ms : List (MemberOf V)) (m : MemberOf V) → i < length ms
      → leaves_of current ms
      ≡ opened_to look current i ms ++ (kept (is_at current i) (opened_member look (get_or ms i m)) ++ opened_from current (i + 1) ms)
  leaves-split current i ms m h = ap (leaves_of current) (sym (set-get_or ms i m)) ∙ leaves-written current i ms (get_or ms i m) h

  -- member i was written and means what it did
  pub leaves-same : (current : Option ℕ) (i : ℕ) (ms : List (MemberOf V)) (m m' : MemberOf V)
      → opened_member look m' ≡ opened_member look (get_or ms i m)
      → leaves_of current (set ms i m') ≡ leaves_of current ms
  unfolding leaves_of
  leaves-same current i ms m m' e = ap (joined current 0) (map-set_same (opened_member look) ms i m' m e)
