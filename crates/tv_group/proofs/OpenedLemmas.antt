-- The equations of `opened`, and the leaves of the first members.
use Rattle.std.proofs.Common.{◌≡◌, ℕ, suc, List, [], ◌∷◌, ◌++◌, ◌+◌, ◌<◌, ◌≤◌, length, get_or, take, map, set, refl, sym, ap, ◌∙◌, arith, append_assoc, Option}
use Rattle.std.proofs.lemmas.List.{set-get_or, take_more_set, length-take-le, take_all}
use Rattle.tv_view.specs.Meaning.{Leaf, Placed, alone, inside, kept}
use Rattle.tv_group.specs.Current.{is_at}
use Rattle.tv_group.specs.Opened.{opened, opened_member, joined, member_step, group_step}
use Rattle.tv_group.specs.declared.group.MemberOf.{MemberOf}
use Rattle.tv_group.specs.declared.group.GroupOf.{GroupOf, roll-GroupOf}
use Rattle.tv_group.specs.declared.group.MemberOf.TheVariants.{Leaf as LeafM, Pane as PaneM, outs-Leaf, outs-Pane}
use Rattle.tv_group.specs.declared.group.MemberOf.TheOpen.{MemberOf-F, GroupOf-F}
use Rattle.tv_group.specs.declared.group.MemberOf.TheFolds.{fold_out-MemberOf, fold_out-GroupOf, fold-roll-GroupOf, map-MemberOf, fold-MemberOf, fold-GroupOf}

append_nil : (xs : List Placed) → xs ++ [] ≡ xs
append_nil [] = refl
append_nil (x ∷ xs) = ap (λ t. x ∷ t) (append_nil xs)

add_suc : (k n : ℕ) → (k + 1) + n ≡ k + suc n
add_suc k n = omega arith

pub joined-append : (current : Option ℕ) (k : ℕ) (xs ys : List (List Placed)) → joined current k (xs ++ ys) ≡ joined current k xs ++ joined current (k + length xs) ys
joined-append current k [] ys = ap (λ n. joined current n ys) (let e : k ≡ k + 0 = omega arith in e)
joined-append current k (x ∷ xs) ys =
    ap (λ t. kept (is_at current k) x ++ t) (joined-append current (k + 1) xs ys)
    ∙ ap (λ n. kept (is_at current k) x ++ (joined current (k + 1) xs ++ joined current n ys)) (add_suc k (length xs))
    ∙ sym (append_assoc (kept (is_at current k) x) (joined current (k + 1) xs) (joined current (k + suc (length xs)) ys))

pub map_snoc : {A B : Type 0} (f : A → B) (xs : List A) (y : A) → map f (xs ++ (y ∷ [])) ≡ map f xs ++ (f y ∷ [])
map_snoc f [] y = refl
map_snoc f (x ∷ xs) y = ap (λ t. f x ∷ t) (map_snoc f xs y)

pub length_map : {A B : Type 0} (f : A → B) (xs : List A) → length (map f xs) ≡ length xs
length_map f [] = refl
length_map f (x ∷ xs) = ap suc (length_map f xs)

pub item_at : {V : Type 0} (i : ℕ) (xs ms : List (MemberOf V)) (m : MemberOf V) → xs ≡ ms → m ≡ get_or xs i m → m ≡ get_or ms i m
item_at i xs ms m same is = is ∙ ap (λ l. get_or l i m) same

module _ {V : Type 0} (look : V → Leaf) where
  -- the leaves of the members before the i-th, seen from the group's corner
  unfoldable pub opened_to : Option ℕ → ℕ → List (MemberOf V) → List Placed
  opened_to current i ms = joined current 0 (map (opened_member look) (take i ms))

  pub opened-members : (g : GroupOf V) → opened look g ≡ map (inside g.bounds) (joined g.current 0 (map (opened_member look) g.members.items))
  unfolding opened opened_member
  opened-members g = fold_out-GroupOf V (List Placed) (List Placed) (member_step look) group_step g

  abbrev step_at : MemberOf-F V (MemberOf V) (GroupOf V) → List Placed
  step_at o = member_step look (map-MemberOf V (MemberOf V) (GroupOf V) (List Placed) (List Placed) (fold-MemberOf V (List Placed) (List Placed) (member_step look) group_step) (fold-GroupOf V (List Placed) (List Placed) (member_step look) group_step) o)

  pub opened_member-leaf : (v : V) → opened_member look (LeafM v) ≡ alone (look v) ∷ []
  unfolding opened_member
  opened_member-leaf v =
      fold_out-MemberOf V (List Placed) (List Placed) (member_step look) group_step (LeafM v) ∙ ap step_at (outs-Leaf v)

  pub opened_member-pane : (g : GroupOf V) → opened_member look (PaneM g) ≡ opened look g
  unfolding opened opened_member
  opened_member-pane g =
      fold_out-MemberOf V (List Placed) (List Placed) (member_step look) group_step (PaneM g) ∙ ap step_at (outs-Pane g)

  pub member-leaf : (m : MemberOf V) (v : V) → m ≡ LeafM v → opened_member look m ≡ alone (look v) ∷ []
  member-leaf m v is = ap (opened_member look) is ∙ opened_member-leaf v

  pub member-pane : (m : MemberOf V) (g : GroupOf V) → m ≡ PaneM g → opened_member look m ≡ opened look g
  member-pane m g is = ap (opened_member look) is ∙ opened_member-pane g

  -- a group that was put together
  pub opened-rolled : (x : GroupOf-F V (MemberOf V) (GroupOf V)) → opened look (roll-GroupOf V x) ≡ map (inside x.bounds) (joined x.current 0 (map (opened_member look) x.members.items))
  unfolding opened opened_member
  opened-rolled x = fold-roll-GroupOf V (List Placed) (List Placed) (member_step look) group_step x

  pub opened_to-none : (current : Option ℕ) (ms : List (MemberOf V)) → opened_to current 0 ms ≡ []
  unfolding opened_to
  opened_to-none current ms = refl

  pub opened_to-next : (current : Option ℕ) (i : ℕ) (ms : List (MemberOf V)) (m : MemberOf V) → i < length ms
      → opened_to current (i + 1) (set ms i m) ≡ opened_to current i ms ++ kept (is_at current i) (opened_member look m)
  unfolding opened_to
  opened_to-next current i ms m h =
      let le : i ≤ length ms = omega arith in
      let n : 0 + length (map (opened_member look) (take i ms)) ≡ i = let e : length (map (opened_member look) (take i ms)) ≡ i = length_map (opened_member look) (take i ms) ∙ length-take-le i ms le in omega arith in
      ap (λ l. joined current 0 (map (opened_member look) l)) (take_more_set ms i m h)
      ∙ ap (joined current 0) (map_snoc (opened_member look) (take i ms) m)
      ∙ joined-append current 0 (map (opened_member look) (take i ms)) (opened_member look m ∷ [])
      ∙ ap (λ k. joined current 0 (map (opened_member look) (take i ms)) ++ (kept (is_at current k) (opened_member look m) ++ [])) n
      ∙ ap (λ t. joined current 0 (map (opened_member look) (take i ms)) ++ t) (append_nil (kept (is_at current i) (opened_member look m)))

  -- one member more
  pub opened_to-more : (current : Option ℕ) (i : ℕ) (ms : List (MemberOf V)) (m : MemberOf V) → i < length ms → m ≡ get_or ms i m
      → opened_to current (i + 1) ms ≡ opened_to current i ms ++ kept (is_at current i) (opened_member look m)
  opened_to-more current i ms m h is =
      let same : set ms i m ≡ ms = ap (set ms i) is ∙ set-get_or ms i m in
      sym (ap (opened_to current (i + 1)) same) ∙ opened_to-next current i ms m h

  -- all members
  pub opened_to-whole : (g : GroupOf V) (i : ℕ) → length g.members.items ≤ i → map (inside g.bounds) (opened_to g.current i g.members.items) ≡ opened look g
  unfolding opened_to
  opened_to-whole g i h = ap (λ l. map (inside g.bounds) (joined g.current 0 (map (opened_member look) l))) (take_all i g.members.items h) ∙ sym (opened-members g)
