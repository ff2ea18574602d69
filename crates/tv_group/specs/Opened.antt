-- The leaves of a group, its panes opened out.
use Rattle.std.specs.Prelude.{ℕ, List, [], ◌∷◌, ◌++◌, ◌+◌, map, max, Option}
use Rattle.tv_cells.specs.declared.rect.Rect.{Rect}
use Rattle.tv_view.specs.Meaning.{Leaf, Placed, alone, inside, kept}
use Rattle.tv_group.specs.Current.{is_at}
use Rattle.tv_group.specs.declared.group.MemberOf.{MemberOf, out-MemberOf}
use Rattle.tv_group.specs.declared.group.GroupOf.{GroupOf}
use Rattle.tv_group.specs.declared.group.MemberOf.TheOpen.{MemberOf-F, GroupOf-F, Leaf as LeafHere}
use Rattle.tv_group.specs.declared.group.MemberOf.TheOpen.{Pane as PaneHere}
use Rattle.tv_group.specs.declared.group.MemberOf.TheFolds.{fold-MemberOf, fold-GroupOf}

-- ---- leaves

-- the members' leaves one after the other, from member i on; those of the current member keep their marks
abbrev pub joined : Option ℕ → ℕ → List (List Placed) → List Placed
joined current i [] = []
joined current i (xs ∷ rest) = kept (is_at current i) xs ++ joined current (i + 1) rest

-- a leaf is one, and a pane's are those of its group
abbrev pub member_step : {V : Type 0} → (V → Leaf) → MemberOf-F V (List Placed) (List Placed) → List Placed
member_step look (LeafHere v) = alone (look v) ∷ []
member_step look (PaneHere xs) = xs

-- a group's are its members', inside its bounds
abbrev pub group_step : {V : Type 0} → GroupOf-F V (List Placed) (List Placed) → List Placed
group_step g = map (inside g.bounds) (joined g.current 0 g.members.items)

-- the leaves of a member, and of a group, by the leaf that each view means
unfoldable pub opened_member : {V : Type 0} → (V → Leaf) → MemberOf V → List Placed
opened_member {V} look m = fold-MemberOf V (List Placed) (List Placed) (member_step look) group_step m

unfoldable pub opened : {V : Type 0} → (V → Leaf) → GroupOf V → List Placed
opened {V} look g = fold-GroupOf V (List Placed) (List Placed) (member_step look) group_step g

-- ---- levels and bounds

abbrev pub level_of : {V : Type 0} → GroupOf V → ℕ
level_of g = g.level

abbrev pub group_bounds : {V : Type 0} → GroupOf V → Rect
group_bounds g = g.bounds

abbrev pub level_here : {V X : Type 0} → MemberOf-F V X (GroupOf V) → ℕ
level_here (LeafHere v) = 0
level_here (PaneHere g) = g.level

-- 0 for a leaf, a pane's own level
abbrev pub member_level : {V : Type 0} → MemberOf V → ℕ
member_level {V} m = level_here (out-MemberOf V m)

-- the highest level among members
abbrev pub members_level : {V : Type 0} → List (MemberOf V) → ℕ
members_level [] = 0
members_level (m ∷ ms) = max (member_level m) (members_level ms)
