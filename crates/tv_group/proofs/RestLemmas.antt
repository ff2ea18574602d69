-- The leaves of the members from the i-th on.
use Rattle.std.proofs.Common.{◌≡◌, ℕ, suc, List, [], ◌++◌, ◌+◌, ◌<◌, ◌≤◌, length, get_or, drop, map, set, sym, ap, ◌∙◌, arith, add-one, drop-cons, Option}
use Rattle.std.proofs.lemmas.List.{drop_all, drop-set-lt}
use Rattle.tv_view.specs.Meaning.{Leaf, Placed, inside, kept}
use Rattle.tv_group.specs.Current.{is_at}
use Rattle.tv_group.specs.Opened.{opened, opened_member, joined}
use Rattle.tv_group.specs.declared.group.MemberOf.{MemberOf}
use Rattle.tv_group.specs.declared.group.GroupOf.{GroupOf}
use Rattle.tv_group.proofs.OpenedLemmas.{opened-members}

module _ {V : Type 0} (look : V → Leaf) where
  -- seen from the group's corner
  unfoldable pub opened_from : Option ℕ → ℕ → List (MemberOf V) → List Placed
  opened_from current i ms = joined current i (map (opened_member look) (drop i ms))

  -- those of all members
  pub opened_from-all : (g : GroupOf V) → opened look g ≡ map (inside g.bounds) (opened_from g.current 0 g.members.items)
  unfolding opened_from
  opened_from-all g = opened-members look g

  pub opened_from-end : (current : Option ℕ) (i : ℕ) (ms : List (MemberOf V)) → length ms ≤ i → opened_from current i ms ≡ []
  unfolding opened_from
  opened_from-end current i ms h = ap (λ xs. joined current i (map (opened_member look) xs)) (drop_all i ms h)

  pub opened_from-step : (current : Option ℕ) (i : ℕ) (ms : List (MemberOf V)) (m : MemberOf V) → i < length ms → m ≡ get_or ms i m
      → opened_from current i ms ≡ kept (is_at current i) (opened_member look m) ++ opened_from current (i + 1) ms
  unfolding opened_from
  opened_from-step current i ms m h is =
      ap (λ xs. joined current i (map (opened_member look) xs)) (drop-cons ms i m h)
      ∙ ap (λ x. kept (is_at current i) (opened_member look x) ++ joined current (i + 1) (map (opened_member look) (drop (suc i) ms))) (sym is)
      ∙ ap (λ k. kept (is_at current i) (opened_member look m) ++ joined current (i + 1) (map (opened_member look) (drop k ms))) (sym (add-one i))

  -- another member in its place
  pub opened_from-written : (current : Option ℕ) (i : ℕ) (ms : List (MemberOf V)) (m : MemberOf V) → opened_from current (i + 1) (set ms i m) ≡ opened_from current (i + 1) ms
  unfolding opened_from
  opened_from-written current i ms m = ap (λ l. joined current (i + 1) (map (opened_member look) l)) (drop-set-lt (i + 1) ms i m (omega arith))
