-- A record that fits whatever a view may mean fits a group of such views.
use Rattle.std.proofs.Common.{ℕ, Bool, true, false, IsTrue, List, [], ◌∷◌, ◌++◌, ◌+◌, map, subst, All, Option}
use Rattle.std.proofs.lemmas.Bool.{false≢true}
use Rattle.std.proofs.lemmas.List.Elements.{All-nil, All-cons, All-head, All-tail}
use Rattle.tv_cells.specs.declared.rect.Rect.{Rect}
use Rattle.tv_model.specs.declared.kind.Kind.{Kind}
use Rattle.tv_model.specs.declared.kind.Kind.TheVariants as kinds
use Rattle.tv_model.specs.declared.record.Value.{Value}
use Rattle.tv_view.specs.Meaning.{Leaf, Placed, alone, inside, kept, uncurrent}
use Rattle.tv_model.specs.Description.Nodes.{is_button}
use Rattle.tv_model.specs.Log.Record.{Entries, value_of}
use Rattle.tv_view.specs.Calls.{Fits, IsFieldValue}
use Rattle.tv_group.specs.Calls.{FitsAll}
use Rattle.tv_group.specs.Current.{is_at}
use Rattle.tv_group.specs.Opened.{opened, opened_member, joined, member_step, group_step}
use Rattle.tv_group.specs.declared.group.MemberOf.{MemberOf, roll-MemberOf}
use Rattle.tv_group.specs.declared.group.GroupOf.{GroupOf, roll-GroupOf}
use Rattle.tv_group.specs.declared.group.MemberOf.TheOpen.{MemberOf-F, GroupOf-F, Leaf as LeafHere, Pane as PaneHere}
use Rattle.tv_group.specs.declared.group.MemberOf.TheFolds.{ind-MemberOf, map-MemberOf, fold-roll-MemberOf}
use Rattle.tv_group.proofs.OpenedLemmas.{opened-members, opened-rolled}

-- a button has no value, so that any record fits it
button-value : (kind : Kind) (value : Option Value) → IsTrue (is_button kind) → IsFieldValue kind value
button-value (kinds.Button button) value is = tt
button-value _ value is = absurd (false≢true is)

pub button_fits : (entries : Entries) (leaf : Leaf) → IsTrue (is_button leaf.node.kind) → Fits entries leaf
unfolding Fits
button_fits entries leaf is = button-value leaf.node.kind (value_of entries leaf.node.id.0) is

module _ (entries : Entries) {V : Type 0} (look : V → Leaf) (fits : (v : V) → Fits entries (look v)) where
  abbrev FitsHere : Placed → Type 0
  FitsHere x = Fits entries x.leaf

  -- ---- leaves in more places

  fits-both : (xs ys : List Placed) → FitsAll entries xs → FitsAll entries ys → FitsAll entries (xs ++ ys)
  fits-both [] ys first second = second
  fits-both (x ∷ xs) ys first second =
      All-cons FitsHere x (xs ++ ys) (All-head FitsHere x xs first) (fits-both xs ys (All-tail FitsHere x xs first) second)

  fits-inside : (r : Rect) (xs : List Placed) → FitsAll entries xs → FitsAll entries (map (inside r) xs)
  fits-inside r [] h = All-nil FitsHere
  fits-inside r (x ∷ xs) h =
      All-cons FitsHere (inside r x) (map (inside r) xs) (All-head FitsHere x xs h) (fits-inside r xs (All-tail FitsHere x xs h))

  fits-kept : (b : Bool) (xs : List Placed) → FitsAll entries xs → FitsAll entries (kept b xs)
  fits-kept true xs h = h
  fits-kept false [] h = All-nil FitsHere
  fits-kept false (x ∷ xs) h =
      All-cons FitsHere (uncurrent x) (map uncurrent xs) (All-head FitsHere x xs h) (fits-kept false xs (All-tail FitsHere x xs h))

  -- ---- trees

  abbrev IsFit : MemberOf V → Type 0
  IsFit m = FitsAll entries (opened_member look m)

  abbrev IsGroupFit : GroupOf V → Type 0
  IsGroupFit g = FitsAll entries (opened look g)

  members_fit : (ms : List (MemberOf V)) → All IsFit ms → (current : Option ℕ) (i : ℕ)
      → FitsAll entries (joined current i (map (opened_member look) ms))
  members_fit [] all current i = All-nil FitsHere
  members_fit (m ∷ ms) all current i =
      fits-both (kept (is_at current i) (opened_member look m)) (joined current (i + 1) (map (opened_member look) ms))
      (fits-kept (is_at current i) (opened_member look m) (All-head IsFit m ms all))
      (members_fit ms (All-tail IsFit m ms all) current (i + 1))

  group_fits : (x : GroupOf-F V (MemberOf V) (GroupOf V)) → All IsFit x.members.items → IsGroupFit (roll-GroupOf V x)
  group_fits x all =
      rw (opened-rolled look x)
      (fits-inside x.bounds (joined x.current 0 (map (opened_member look) x.members.items)) (members_fit x.members.items all x.current 0))

  leaf_fits : (v : V) → IsFit (roll-MemberOf V (LeafHere v))
  unfolding opened_member
  leaf_fits v =
      rw (fold-roll-MemberOf V (List Placed) (List Placed) (member_step look) group_step (LeafHere v))
      (All-cons FitsHere (alone (look v)) [] (fits v) (All-nil FitsHere))

  pane_fits : (g : GroupOf V) → IsGroupFit g → IsFit (roll-MemberOf V (PaneHere g))
  unfolding opened_member opened
  pane_fits g fit = rw (fold-roll-MemberOf V (List Placed) (List Placed) (member_step look) group_step (PaneHere g)) fit

  all_fit : (ms : List ((m : MemberOf V) × IsFit m)) → All IsFit (map (λ e. e.0) ms)
  all_fit [] = All-nil IsFit
  all_fit (e ∷ ms) = All-cons IsFit e.0 (map (λ e. e.0) ms) e.1 (all_fit ms)

  layer_fits : (y : MemberOf-F V ((m : MemberOf V) × IsFit m) ((g : GroupOf V) × IsGroupFit g))
      → IsFit (roll-MemberOf V (map-MemberOf V ((m : MemberOf V) × IsFit m) ((g : GroupOf V) × IsGroupFit g) (MemberOf V) (GroupOf V)
      (λ e. e.0) (λ e. e.0) y))
  layer_fits (LeafHere v) = leaf_fits v
  layer_fits (PaneHere e) = pane_fits e.0 e.1

  every_fit : (m : MemberOf V) → IsFit m
  every_fit = ind-MemberOf V IsFit IsGroupFit
      (λ x y is. subst (λ z. IsFit (roll-MemberOf V z)) is (layer_fits y))
      (λ x y is. group_fits x (subst (λ z. All IsFit z.members.items) is (all_fit y.members.items)))

  every_all : (ms : List (MemberOf V)) → All IsFit ms
  every_all [] = All-nil IsFit
  every_all (m ∷ ms) = All-cons IsFit m ms (every_fit m) (every_all ms)

  pub group_fits_all : (g : GroupOf V) → FitsAll entries (opened look g)
  group_fits_all g =
      rw (opened-members look g)
      (fits-inside g.bounds (joined g.current 0 (map (opened_member look) g.members.items))
      (members_fit g.members.items (every_all g.members.items) g.current 0))
