-- A record that fits every leaf fits those of each member.
use Rattle.std.proofs.Common.{◌≡◌, ℕ, Bool, true, false, List, [], ◌∷◌, ◌++◌, ◌+◌, ◌<◌, length, get_or, map, set, sym, subst, Option}
use Rattle.std.proofs.lemmas.List.Elements.{All-nil, All-cons, All-head, All-tail}
use Rattle.tv_cells.specs.declared.rect.Rect.{Rect}
use Rattle.tv_view.specs.Meaning.{Leaf, Placed, alone, inside, kept, uncurrent}
use Rattle.tv_model.specs.Log.Record.{Entries}
use Rattle.tv_view.specs.Calls.{Fits}
use Rattle.tv_group.specs.Calls.{FitsAll}
use Rattle.tv_group.specs.Current.{is_at}
use Rattle.tv_group.specs.Opened.{opened, opened_member}
use Rattle.tv_group.specs.declared.group.MemberOf.{MemberOf}
use Rattle.tv_group.specs.declared.group.GroupOf.{GroupOf}
use Rattle.tv_group.specs.declared.group.MemberOf.TheVariants.{Leaf as LeafM, Pane as PaneM}
use Rattle.tv_group.proofs.OpenedLemmas.{member-leaf, member-pane}
use Rattle.tv_group.proofs.RestLemmas.{opened_from, opened_from-all, opened_from-step, opened_from-written}

module _ (entries : Entries) where
  abbrev FitsHere : Placed → Type 0
  FitsHere x = Fits entries x.leaf

  fits-left : (xs ys : List Placed) → FitsAll entries (xs ++ ys) → FitsAll entries xs
  fits-left [] ys h = All-nil FitsHere
  fits-left (x ∷ xs) ys h = All-cons FitsHere x xs (All-head FitsHere x (xs ++ ys) h) (fits-left xs ys (All-tail FitsHere x (xs ++ ys) h))

  fits-right : (xs ys : List Placed) → FitsAll entries (xs ++ ys) → FitsAll entries ys
  fits-right [] ys h = h
  fits-right (x ∷ xs) ys h = fits-right xs ys (All-tail FitsHere x (xs ++ ys) h)

  fits-inside : (r : Rect) (xs : List Placed) → FitsAll entries (map (inside r) xs) → FitsAll entries xs
  fits-inside r [] h = All-nil FitsHere
  fits-inside r (x ∷ xs) h =
      All-cons FitsHere x xs (All-head FitsHere (inside r x) (map (inside r) xs) h) (fits-inside r xs (All-tail FitsHere (inside r x) (map (inside r) xs) h))

  fits-unmarked : (xs : List Placed) → FitsAll entries (map uncurrent xs) → FitsAll entries xs
  fits-unmarked [] h = All-nil FitsHere
  fits-unmarked (x ∷ xs) h =
      All-cons FitsHere x xs (All-head FitsHere (uncurrent x) (map uncurrent xs) h) (fits-unmarked xs (All-tail FitsHere (uncurrent x) (map uncurrent xs) h))

  fits-kept : (b : Bool) (xs : List Placed) → FitsAll entries (kept b xs) → FitsAll entries xs
  fits-kept true xs h = h
  fits-kept false xs h = fits-unmarked xs h

  module _ {V : Type 0} (look : V → Leaf) where
    pub fits-leaf : (m : MemberOf V) (v : V) → m ≡ LeafM v → FitsAll entries (opened_member look m) → Fits entries (look v)
    fits-leaf m v is h = All-head FitsHere (alone (look v)) [] (subst (FitsAll entries) (member-leaf look m v is) h)

    pub fits-pane : (m : MemberOf V) (g : GroupOf V) → m ≡ PaneM g → FitsAll entries (opened_member look m) → FitsAll entries (opened look g)
    fits-pane m g is h = subst (FitsAll entries) (member-pane look m g is) h

    -- the members of a group, the i-th, and those behind it
    pub fits-all : (g : GroupOf V) (ms : List (MemberOf V)) → ms ≡ g.members.items → FitsAll entries (opened look g) → FitsAll entries (opened_from look g.current 0 ms)
    fits-all g ms same h =
        subst (λ l. FitsAll entries (opened_from look g.current 0 l)) (sym same)
        (fits-inside g.bounds (opened_from look g.current 0 g.members.items) (subst (FitsAll entries) (opened_from-all look g) h))

    pub fits-member : (current : Option ℕ) (i : ℕ) (ms : List (MemberOf V)) (m : MemberOf V) → i < length ms → m ≡ get_or ms i m
        → FitsAll entries (opened_from look current i ms) → FitsAll entries (opened_member look (get_or ms i m))
    fits-member current i ms m h is fits =
        subst (λ x. FitsAll entries (opened_member look x)) is
        (fits-kept (is_at current i) (opened_member look m)
        (fits-left (kept (is_at current i) (opened_member look m)) (opened_from look current (i + 1) ms) (subst (FitsAll entries) (opened_from-step look current i ms m h is) fits)))

    pub fits-next : (current : Option ℕ) (i : ℕ) (ms : List (MemberOf V)) (m m' : MemberOf V) → i < length ms → m ≡ get_or ms i m
        → FitsAll entries (opened_from look current i ms) → FitsAll entries (opened_from look current (i + 1) (set ms i m'))
    fits-next current i ms m m' h is fits =
        subst (FitsAll entries) (sym (opened_from-written look current i ms m'))
        (fits-right (kept (is_at current i) (opened_member look m)) (opened_from look current (i + 1) ms) (subst (FitsAll entries) (opened_from-step look current i ms m h is) fits))
