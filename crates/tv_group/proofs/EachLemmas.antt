-- Calls that change every leaf: what the first members have become, and what the others are still to become.
use Rattle.std.proofs.Common.{◌≡◌, ℕ, Bool, true, false, List, [], ◌∷◌, ◌++◌, ◌+◌, ◌<◌, ◌≤◌, length, get_or, map, set, refl, sym, ap, ◌∙◌, append_assoc, Option}
use Rattle.std.proofs.lemmas.List.{append-nil, map-append, take_all, with_items_is}
use Rattle.std.specs.Vec.{with_items}
use Rattle.tv_cells.specs.declared.rect.Rect.{Rect}
use Rattle.tv_view.specs.Meaning.{Leaf, Placed, alone, inside, kept, uncurrent}
use Rattle.tv_group.specs.Calls.{in_place, in_place_unmarked}
use Rattle.tv_group.specs.Current.{is_at}
use Rattle.tv_group.specs.Opened.{opened, opened_member, joined}
use Rattle.tv_group.specs.declared.group.MemberOf.{MemberOf}
use Rattle.tv_group.specs.declared.group.GroupOf.{GroupOf, roll-GroupOf}
use Rattle.tv_group.specs.declared.group.MemberOf.TheVariants.{Leaf as LeafM, Pane as PaneM}
use Rattle.tv_group.proofs.OpenedLemmas.{opened_to, opened_to-none, opened_to-next, opened-rolled, opened_member-leaf, opened_member-pane}
use Rattle.tv_group.proofs.RestLemmas.{opened_from, opened_from-all, opened_from-step, opened_from-end, opened_from-written}

-- two changes, in either order
swapped : (p q : Placed → Placed) → ((x : Placed) → p (q x) ≡ q (p x)) → (xs : List Placed) → map p (map q xs) ≡ map q (map p xs)
swapped p q same [] = refl
swapped p q same (x ∷ xs) = ap (λ y. y ∷ map p (map q xs)) (same x) ∙ ap (λ t. q (p x) ∷ t) (swapped p q same xs)

-- a change that another one hides, or repeats
hidden : (p q : Placed → Placed) → ((x : Placed) → p (q x) ≡ p x) → (xs : List Placed) → map p (map q xs) ≡ map p xs
hidden p q same [] = refl
hidden p q same (x ∷ xs) = ap (λ y. y ∷ map p (map q xs)) (same x) ∙ ap (λ t. p x ∷ t) (hidden p q same xs)

pub unmarked-in_place_unmarked : (change : Leaf → Leaf) (xs : List Placed) → map uncurrent (map (in_place_unmarked change) xs) ≡ map (in_place_unmarked change) xs
unmarked-in_place_unmarked change [] = refl
unmarked-in_place_unmarked change (x ∷ xs) = ap (λ t. in_place_unmarked change x ∷ t) (unmarked-in_place_unmarked change xs)

-- ---- one member

-- it keeps its marks as before
pub kept-in_place : (change : Leaf → Leaf) (b : Bool) (after before : List Placed) → after ≡ map (in_place change) before → kept b after ≡ map (in_place change) (kept b before)
kept-in_place change true after before told = told
kept-in_place change false after before told = ap (map uncurrent) told ∙ sym (swapped (in_place change) uncurrent (λ x. refl) before)

-- it has none any longer
pub kept-in_place_unmarked : (change : Leaf → Leaf) (b : Bool) (after before : List Placed) → map uncurrent after ≡ map (in_place_unmarked change) before
    → map uncurrent after ≡ map (in_place_unmarked change) (kept b before)
kept-in_place_unmarked change true after before told = told
kept-in_place_unmarked change false after before told = told ∙ sym (hidden (in_place_unmarked change) uncurrent (λ x. refl) before)

module _ {V : Type 0} (look : V → Leaf) where
  pub in_place-leaf : (change : Leaf → Leaf) (v w : V) → look w ≡ change (look v) → opened_member look (LeafM w) ≡ map (in_place change) (opened_member look (LeafM v))
  in_place-leaf change v w e = opened_member-leaf look w ∙ ap (λ l. alone l ∷ []) e ∙ sym (ap (map (in_place change)) (opened_member-leaf look v))

  pub in_place-pane : (change : Leaf → Leaf) (g h : GroupOf V) → opened look h ≡ map (in_place change) (opened look g) → opened_member look (PaneM h) ≡ map (in_place change) (opened_member look (PaneM g))
  in_place-pane change g h e = opened_member-pane look h ∙ e ∙ sym (ap (map (in_place change)) (opened_member-pane look g))

  pub in_place_unmarked-leaf : (change : Leaf → Leaf) (v w : V) → look w ≡ change (look v)
      → map uncurrent (opened_member look (LeafM w)) ≡ map (in_place_unmarked change) (opened_member look (LeafM v))
  in_place_unmarked-leaf change v w e =
      ap (map uncurrent) (opened_member-leaf look w) ∙ ap (λ l. uncurrent (alone l) ∷ []) e ∙ sym (ap (map (in_place_unmarked change)) (opened_member-leaf look v))

  pub in_place_unmarked-pane : (change : Leaf → Leaf) (g h : GroupOf V) → opened look h ≡ map (in_place_unmarked change) (opened look g)
      → map uncurrent (opened_member look (PaneM h)) ≡ map (in_place_unmarked change) (opened_member look (PaneM g))
  in_place_unmarked-pane change g h e =
      ap (map uncurrent) (opened_member-pane look h ∙ e) ∙ unmarked-in_place_unmarked change (opened look g) ∙ sym (ap (map (in_place_unmarked change)) (opened_member-pane look g))

  -- ---- members one after the other, where one was current before and one, or none, is after

  module _ (p : Placed → Placed) (before after : Option ℕ) where
    pub each-init : (ms xs : List (MemberOf V)) → xs ≡ ms
        → map p (opened_from look before 0 ms) ≡ opened_to look after 0 xs ++ map p (opened_from look before 0 xs)
    each-init ms xs same =
        ap (λ l. map p (opened_from look before 0 l)) (sym same) ∙ ap (λ t. t ++ map p (opened_from look before 0 xs)) (sym (opened_to-none look after xs))

    pub each-next : (i : ℕ) (ms : List (MemberOf V)) (m m' : MemberOf V) (whole : List Placed) → i < length ms → m ≡ get_or ms i m
        → kept (is_at after i) (opened_member look m') ≡ map p (kept (is_at before i) (opened_member look (get_or ms i m)))
        → whole ≡ opened_to look after i ms ++ map p (opened_from look before i ms)
        → whole ≡ opened_to look after (i + 1) (set ms i m') ++ map p (opened_from look before (i + 1) (set ms i m'))
    each-next i ms m m' whole h is does was =
        was
        ∙ ap (λ t. opened_to look after i ms ++ t)
        (ap (map p) (opened_from-step look before i ms m h is)
        ∙ map-append p (kept (is_at before i) (opened_member look m)) (opened_from look before (i + 1) ms)
        ∙ ap (λ x. map p (kept (is_at before i) (opened_member look x)) ++ map p (opened_from look before (i + 1) ms)) is
        ∙ ap (λ t. t ++ map p (opened_from look before (i + 1) ms)) (sym does))
        ∙ sym (append_assoc (opened_to look after i ms) (kept (is_at after i) (opened_member look m')) (map p (opened_from look before (i + 1) ms)))
        ∙ ap (λ t. t ++ map p (opened_from look before (i + 1) ms)) (sym (opened_to-next look after i ms m' h))
        ∙ ap (λ t. opened_to look after (i + 1) (set ms i m') ++ map p t) (sym (opened_from-written look before i ms m'))

  -- the group with its members changed
  pub each-done : (p : Placed → Placed) → ((r : Rect) (x : Placed) → p (inside r x) ≡ inside r (p x)) → (after : Option ℕ) (g : GroupOf V) (i : ℕ) (ms : List (MemberOf V))
      → length ms ≡ length g.members.items → length ms ≤ i
      → map p (opened_from look g.current 0 g.members.items) ≡ opened_to look after i ms ++ map p (opened_from look g.current i ms)
      → opened look (roll-GroupOf V (record { level = g.level; bounds = g.bounds; members = with_items g.members ms; current = after })) ≡ map p (opened look g)
  unfolding opened_to
  each-done p over after g i ms same h was =
      opened-rolled look (record { level = g.level; bounds = g.bounds; members = with_items g.members ms; current = after })
      ∙ ap (λ l. map (inside g.bounds) (joined after 0 (map (opened_member look) l))) (with_items_is g.members ms (same ∙ sym g.members.ok.0) ∙ sym (take_all i ms h))
      ∙ ap (map (inside g.bounds))
      (sym (was ∙ ap (λ t. opened_to look after i ms ++ map p t) (opened_from-end look g.current i ms h) ∙ append-nil (opened_to look after i ms)))
      ∙ sym (swapped p (inside g.bounds) (over g.bounds) (opened_from look g.current 0 g.members.items))
      ∙ ap (map p) (sym (opened_from-all look g))
