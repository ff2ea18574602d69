-- The focus goes through the members of a group.
use Rattle.std.proofs.Common.{◌≡◌, ℕ, suc, Bool, true, false, not, ◌&&◌, ◌||◌, ◌==◌, List, [], ◌∷◌, ◌++◌, ◌+◌, ◌<◌, ◌≤◌, length, get_or, drop, drop-cons, add-one, map, set, take, refl, sym, ap, ◌∙◌, arith, Option, Some, None, is_some}
use Rattle.std.proofs.Math.Bool.{or-false, or_assoc}
use Rattle.std.proofs.lemmas.Bool.Decides.{nat_tests}
use Rattle.std.proofs.lemmas.List.{drop-set-lt, get_or_default, length-map, length-take-le, take_all, with_items_is}
use Rattle.std.proofs.lemmas.List.Folds.{list_any-append}
use Rattle.std.specs.Bool.{then_some}
use Rattle.std.specs.Option.{option_or}
use Rattle.std.specs.Vec.{with_items}
use Rattle.tv_cells.specs.declared.rect.Rect.{Rect}
use Rattle.tv_model.specs.declared.node.Id.{Id}
use Rattle.tv_view.specs.Meaning.{Leaf, Placed, alone, inside, kept, uncurrent}
use Rattle.tv_view.specs.Calls.{focused_to, takes_focus}
use Rattle.tv_group.specs.Calls.{all_focused, focused_from, has_control}
use Rattle.tv_group.specs.Current.{is_at}
use Rattle.tv_group.specs.Opened.{joined, opened, opened_member}
use Rattle.tv_group.specs.declared.group.GroupOf.{GroupOf, roll-GroupOf}
use Rattle.tv_group.specs.declared.group.MemberOf.{MemberOf}
use Rattle.tv_group.specs.declared.group.MemberOf.TheVariants.{Pane as PaneM}
use Rattle.tv_group.proofs.OpenedLemmas.{opened-rolled, opened_member-pane, opened_to, opened_to-none, opened_to-more, opened_to-next, opened_to-whole}

-- ---- whether a control has the id

has_control-append : (id : Id) (xs ys : List Placed) → has_control id (xs ++ ys) ≡ (has_control id xs || has_control id ys)
unfolding has_control
has_control-append id xs ys = list_any-append (λ x. takes_focus id x.leaf) xs ys

has_control-none : (id : Id) → has_control id [] ≡ false
unfolding has_control
has_control-none id = refl

has_control-unmarked : (id : Id) (xs : List Placed) → has_control id (map uncurrent xs) ≡ has_control id xs
unfolding has_control
has_control-unmarked id [] = refl
has_control-unmarked id (x ∷ xs) = ap (λ b. takes_focus id x.leaf || b) (has_control-unmarked id xs)

has_control-kept : (id : Id) (b : Bool) (xs : List Placed) → has_control id (kept b xs) ≡ has_control id xs
has_control-kept id true xs = refl
has_control-kept id false xs = has_control-unmarked id xs

has_control-inside : (r : Rect) (id : Id) (xs : List Placed) → has_control id (map (inside r) xs) ≡ has_control id xs
unfolding has_control
has_control-inside r id [] = refl
has_control-inside r id (x ∷ xs) = ap (λ b. takes_focus id x.leaf || b) (has_control-inside r id xs)

pub has_control-alone : (id : Id) (leaf : Leaf) → has_control id (alone leaf ∷ []) ≡ takes_focus id leaf
unfolding has_control
has_control-alone id leaf = or-false (takes_focus id leaf)

-- ---- what the leaves become

abbrev marked : Bool → Id → Placed → Placed
marked b id x = record x { leaf = focused_to id x.leaf; is_current = b }

focused-append : (f : Bool) (id : Id) (xs ys : List Placed)
    → focused_from f id (xs ++ ys) ≡ focused_from f id xs ++ focused_from (f || has_control id xs) id ys
unfolding has_control
focused-append f id [] ys = ap (λ b. focused_from b id ys) (sym (or-false f))
focused-append f id (x ∷ xs) ys =
    let t = takes_focus id x.leaf in
    ap (λ l. marked (not f && t) id x ∷ l)
    (focused-append (f || t) id xs ys ∙ ap (λ b. focused_from (f || t) id xs ++ focused_from b id ys) (or_assoc f t (has_control id xs)))

focused-unmarked : (f : Bool) (id : Id) (xs : List Placed) → focused_from f id (map uncurrent xs) ≡ focused_from f id xs
focused-unmarked f id [] = refl
focused-unmarked f id (x ∷ xs) =
    ap (λ l. marked (not f && takes_focus id x.leaf) id x ∷ l) (focused-unmarked (f || takes_focus id x.leaf) id xs)

focused-kept : (f : Bool) (id : Id) (b : Bool) (xs : List Placed) → focused_from f id (kept b xs) ≡ focused_from f id xs
focused-kept f id true xs = refl
focused-kept f id false xs = focused-unmarked f id xs

focused-inside : (r : Rect) (f : Bool) (id : Id) (xs : List Placed)
    → focused_from f id (map (inside r) xs) ≡ map (inside r) (focused_from f id xs)
focused-inside r f id [] = refl
focused-inside r f id (x ∷ xs) =
    ap (λ l. inside r (marked (not f && takes_focus id x.leaf) id x) ∷ l) (focused-inside r (f || takes_focus id x.leaf) id xs)

unmarked-focused : (f : Bool) (id : Id) (xs : List Placed) → map uncurrent (focused_from f id xs) ≡ focused_from true id xs
unmarked-focused f id [] = refl
unmarked-focused f id (x ∷ xs) = ap (λ l. marked false id x ∷ l) (unmarked-focused (f || takes_focus id x.leaf) id xs)

-- where none is found it is as if one was found before
none-step : (t has : Bool) (id : Id) (x : Placed) (xs : List Placed) → (t || has) ≡ false
    → (has ≡ false → focused_from false id xs ≡ focused_from true id xs)
    → (marked t id x ∷ focused_from t id xs) ≡ (marked false id x ∷ focused_from true id xs)
none-step true has id x xs h e = cc
none-step false has id x xs h e = ap (λ l. marked false id x ∷ l) (e h)

focused-none : (id : Id) (xs : List Placed) → has_control id xs ≡ false → focused_from false id xs ≡ focused_from true id xs
unfolding has_control
focused-none id [] h = refl
focused-none id (x ∷ xs) h = none-step (takes_focus id x.leaf) (has_control id xs) id x xs h (focused-none id xs)

-- ---- one leaf

pub leaf-left : (id : Id) (leaf after : Leaf) → after ≡ focused_to id leaf
    → map uncurrent (alone after ∷ []) ≡ focused_from true id (alone leaf ∷ [])
leaf-left id leaf after e = ap (λ l. uncurrent (alone l) ∷ []) e

pub leaf-moved : (id : Id) (leaf after : Leaf) → after ≡ focused_to id leaf → has_control id (alone leaf ∷ []) ≡ true
    → alone after ∷ [] ≡ focused_from false id (alone leaf ∷ [])
leaf-moved id leaf after e h =
    ap (λ l. alone l ∷ []) e ∙ ap (λ b. marked b id (alone leaf) ∷ []) (sym h ∙ has_control-alone id leaf)

-- ---- the loop: the members before the i-th have been told

abbrev pub FoundBelow : Option ℕ → ℕ → Type 0
FoundBelow None i = Unit {0}
FoundBelow (Some k) i = k < i

below-next : (found : Option ℕ) (has : Bool) (i : ℕ) → FoundBelow found i → FoundBelow (option_or found (then_some has i)) (i + 1)
below-next None true i h = omega arith
below-next None false i h = tt
below-next (Some k) has i h = omega arith

some-next : (found : Option ℕ) (has : Bool) (i : ℕ) → (is_some found || has) ≡ is_some (option_or found (then_some has i))
some-next None true i = refl
some-next None false i = refl
some-next (Some k) has i = refl

-- the first member that has the control stays the one that was found
pub first-found : (found : Option ℕ) (has : Bool) (i : ℕ) → has ≡ true → is_some found ≡ false → Some i ≡ option_or found (then_some has i)
first-found None true i h none = refl
first-found None false i h none = cc
first-found (Some k) has i h none = cc

pub found-before : (found : Option ℕ) (has : Bool) (i : ℕ) → is_some found ≡ true → found ≡ option_or found (then_some has i)
found-before None has i h = cc
found-before (Some k) has i h = refl

pub not-found : (found : Option ℕ) (has : Bool) (i : ℕ) → has ≡ false → found ≡ option_or found (then_some has i)
not-found None true i h = cc
not-found None false i h = refl
not-found (Some k) has i h = refl

at_itself : (i : ℕ) → (i == i) ≡ true
at_itself i = grind (arith, nat_tests)

at_later : (k i : ℕ) → k < i → (k == i) ≡ false
at_later k i h = grind (arith, nat_tests)

at_earlier : (k i : ℕ) → i < k → (k == i) ≡ false
at_earlier k i h = grind (arith, nat_tests)

joined-beyond : (k n : ℕ) (xss : List (List Placed)) → n + length xss ≤ k → joined (Some k) n xss ≡ joined None n xss
joined-beyond k n [] h = refl
joined-beyond k n (xs ∷ rest) h =
    ap (λ b. kept b xs ++ joined (Some k) (n + 1) rest) (at_earlier k n (omega arith))
    ∙ ap (λ l. map uncurrent xs ++ l) (joined-beyond k (n + 1) rest (omega arith))

-- one member's part
member-focused : (id : Id) (found : Option ℕ) (has : Bool) (i : ℕ) (xs after : List Placed) → FoundBelow found i → has ≡ has_control id xs
    → map uncurrent after ≡ focused_from true id xs → (has_control id xs ≡ true → after ≡ focused_from false id xs)
    → kept (is_at (option_or found (then_some has i)) i) after ≡ focused_from (is_some found) id xs
member-focused id None true i xs after h told left moved = ap (λ b. kept b after) (at_itself i) ∙ moved (sym told)
member-focused id None false i xs after h told left moved = left ∙ sym (focused-none id xs (sym told))
member-focused id (Some k) has i xs after h told left moved = ap (λ b. kept b after) (at_later k i h) ∙ left

module _ {V : Type 0} (look : V → Leaf) (id : Id) where
  pub record Focusing (g : GroupOf V) (found : Option ℕ) (i : ℕ) (ms : List (MemberOf V)) : Type 0 where
    pub below : FoundBelow found i
    pub rest : drop i ms ≡ drop i g.members.items
    pub told : is_some found ≡ has_control id (opened_to look g.current i g.members.items)
    pub moved : opened_to look found i ms ≡ focused_from false id (opened_to look g.current i g.members.items)

  found-beyond : (found : Option ℕ) (has : Bool) (i : ℕ) (ms : List (MemberOf V)) → i ≤ length ms
      → opened_to look (option_or found (then_some has i)) i ms ≡ opened_to look found i ms
  unfolding opened_to
  found-beyond None true i ms h =
      let n : 0 + length (map (opened_member look) (take i ms)) ≤ i =
      let e : length (map (opened_member look) (take i ms)) ≡ i =
      length-map (take i ms) (opened_member look) ∙ length-take-le i ms h
      in omega arith in
      joined-beyond i 0 (map (opened_member look) (take i ms)) n
  found-beyond None false i ms h = refl
  found-beyond (Some k) has i ms h = refl

  pub focusing-none : (g : GroupOf V) (ms : List (MemberOf V)) → ms ≡ g.members.items → Focusing g None 0 ms
  focusing-none g ms same = record {
    below = tt;
    rest = ap (drop 0) same;
    told = sym (ap (has_control id) (opened_to-none look g.current g.members.items) ∙ has_control-none id);
    moved = opened_to-none look None ms ∙ sym (ap (focused_from false id) (opened_to-none look g.current g.members.items));
  }

  -- the i-th member and what lies behind it are the group's own
  same-rest : (g : GroupOf V) (i : ℕ) (ms : List (MemberOf V)) (m : MemberOf V) → i < length ms → length ms ≡ length g.members.items
      → drop i ms ≡ drop i g.members.items
      → (get_or ms i m ∷ drop (suc i) ms) ≡ (get_or g.members.items i m ∷ drop (suc i) g.members.items)
  same-rest g i ms m h same rest =
      let h' : i < length g.members.items = omega arith in
      sym (drop-cons ms i m h) ∙ rest ∙ drop-cons g.members.items i m h'

  same-item : (g : GroupOf V) (i : ℕ) (ms : List (MemberOf V)) (m : MemberOf V) → i < length ms → length ms ≡ length g.members.items
      → drop i ms ≡ drop i g.members.items
      → get_or ms i m ≡ get_or g.members.items i (get_or ms i m)
  same-item g i ms m h same rest =
      let h' : i < length g.members.items = omega arith in
      ap (λ l. get_or l 0 m) (same-rest g i ms m h same rest) ∙ get_or_default g.members.items i m (get_or ms i m) h'

  pub focusing-next : (g : GroupOf V) (found : Option ℕ) (has : Bool) (i : ℕ) (ms : List (MemberOf V)) (m m' : MemberOf V)
      → i < length ms → length ms ≡ length g.members.items
      → has ≡ has_control id (opened_member look (get_or ms i m))
      → map uncurrent (opened_member look m') ≡ focused_from true id (opened_member look (get_or ms i m))
      → (has_control id (opened_member look (get_or ms i m)) ≡ true
      → opened_member look m' ≡ focused_from false id (opened_member look (get_or ms i m)))
      → Focusing g found i ms → Focusing g (option_or found (then_some has i)) (i + 1) (set ms i m')
  focusing-next g found has i ms m m' h same told left moved before =
      let old = get_or ms i m in let olds = g.members.items in let xs = opened_member look (get_or ms i m) in let b = is_at g.current i in
      let next = option_or found (then_some has i) in
      let h' : i < length olds = omega arith in
      let le : i ≤ length ms = omega arith in
      let lt : i < i + 1 = omega arith in
      let more : opened_to look g.current (i + 1) olds ≡ opened_to look g.current i olds ++ kept b xs =
      opened_to-more look g.current i olds old h' (same-item g i ms m h same before.rest) in
      record {
        below = below-next found has i before.below;
        rest =
            drop-set-lt (i + 1) ms i m' lt ∙ ap (λ k. drop k ms) (add-one i)
            ∙ ap (drop 1) (same-rest g i ms m h same before.rest) ∙ ap (λ k. drop k olds) (sym (add-one i));
        told =
            sym (some-next found has i) ∙ ap (λ o. o || has) before.told
            ∙ ap (λ o. has_control id (opened_to look g.current i olds) || o) (told ∙ sym (has_control-kept id b xs))
            ∙ sym (ap (has_control id) more ∙ has_control-append id (opened_to look g.current i olds) (kept b xs));
        moved =
            opened_to-next look next i ms m' h
            ∙ ap (λ l. l ++ kept (is_at next i) (opened_member look m')) (found-beyond found has i ms le ∙ before.moved)
            ∙ ap (λ l. focused_from false id (opened_to look g.current i olds) ++ l)
            (member-focused id found has i xs (opened_member look m') before.below told left moved
            ∙ ap (λ o. focused_from o id xs) before.told
            ∙ sym (focused-kept (has_control id (opened_to look g.current i olds)) id b xs))
            ∙ sym (ap (focused_from false id) more ∙ focused-append false id (opened_to look g.current i olds) (kept b xs));
      }

  pub focusing-found : (g : GroupOf V) (found : Option ℕ) (i : ℕ) (ms : List (MemberOf V)) → length g.members.items ≤ i
      → Focusing g found i ms
      → is_some found ≡ has_control id (opened look g)
  focusing-found g found i ms h before =
      before.told ∙ sym (has_control-inside g.bounds id (opened_to look g.current i g.members.items))
      ∙ ap (has_control id) (opened_to-whole look g i h)

  pub focusing-all : (g : GroupOf V) (found : Option ℕ) (i : ℕ) (ms : List (MemberOf V)) → length ms ≤ i
      → length ms ≡ length g.members.items → Focusing g found i ms
      → opened look (roll-GroupOf V (record { level = g.level; bounds = g.bounds; members = with_items g.members ms; current = found }))
      ≡ all_focused id (opened look g)
  unfolding opened_to all_focused
  focusing-all g found i ms h same before =
      let h' : length g.members.items ≤ i = omega arith in
      opened-rolled look (record { level = g.level; bounds = g.bounds; members = with_items g.members ms; current = found })
      ∙ ap (λ l. map (inside g.bounds) (joined found 0 (map (opened_member look) l)))
      (with_items_is g.members ms (same ∙ sym g.members.ok.0) ∙ sym (take_all i ms h))
      ∙ ap (map (inside g.bounds)) before.moved
      ∙ sym (focused-inside g.bounds false id (opened_to look g.current i g.members.items))
      ∙ ap (focused_from false id) (opened_to-whole look g i h')

  -- ---- a pane

  pub pane-moved : (g h : GroupOf V) → opened look h ≡ all_focused id (opened look g)
      → opened_member look (PaneM h) ≡ focused_from false id (opened_member look (PaneM g))
  unfolding all_focused
  pane-moved g h e = opened_member-pane look h ∙ e ∙ sym (ap (focused_from false id) (opened_member-pane look g))

  pub pane-left : (g h : GroupOf V) → opened look h ≡ all_focused id (opened look g)
      → map uncurrent (opened_member look (PaneM h)) ≡ focused_from true id (opened_member look (PaneM g))
  pane-left g h e = ap (map uncurrent) (pane-moved g h e) ∙ unmarked-focused false id (opened_member look (PaneM g))
