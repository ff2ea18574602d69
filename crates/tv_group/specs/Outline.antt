-- The outline of a group, with its panes, and when a group is fresh.
use Rattle.std.specs.Prelude.{◌≡◌, ℕ, Bool, true, false, IsTrue, List, [], ◌∷◌, ◌++◌, ◌+◌, map, pos}
use Rattle.std.specs.Prelude.{if◌then◌else◌}
use Rattle.tv_cells.specs.declared.rect.Rect.{Rect}
use Rattle.tv_model.specs.declared.node.Node.{Node}
use Rattle.tv_model.specs.declared.kind.Kind.{Kind}
use Rattle.tv_model.specs.declared.kind.Kind.TheVariants as kinds
use Rattle.tv_model.specs.Description.Nodes.{height_of, is_pane}
use Rattle.tv_model.specs.Description.Rectangles.{place_of_node, rect}
use Rattle.tv_view.specs.Meaning.{Leaf, fresh, has_current, Part, LeafAt, PaneAt, Outlined}
use Rattle.tv_group.specs.declared.group.MemberOf.{MemberOf}
use Rattle.tv_group.specs.declared.group.GroupOf.{GroupOf}
use Rattle.tv_group.specs.declared.group.MemberOf.TheOpen.{MemberOf-F, GroupOf-F, Leaf as LeafHere}
use Rattle.tv_group.specs.declared.group.MemberOf.TheOpen.{Pane as PaneHere}
use Rattle.tv_group.specs.declared.group.MemberOf.TheFolds.{fold-MemberOf, fold-GroupOf}
use Rattle.tv_group.specs.Opened.{opened}

-- a part, with so many groups around it
abbrev pub outlined : ℕ → Part → Outlined
outlined depth part = record { depth = depth; part = part }

-- an outline, from how many groups are around it
abbrev pub Outline : Type 0
Outline = ℕ → List Outlined

-- outlines one after the other
abbrev pub all_at : ℕ → List Outline → List Outlined
all_at depth [] = []
all_at depth (f ∷ fs) = f depth ++ all_at depth fs

-- a leaf is one part, and a pane's are those of its group
abbrev pub part_step : {V : Type 0} → (V → Leaf) → MemberOf-F V Outline Outline → Outline
part_step look (LeafHere v) depth = outlined depth (LeafAt (look v)) ∷ []
part_step look (PaneHere f) depth = f depth

-- a group's bounds, and its members in it
abbrev pub whole_step : {V : Type 0} → GroupOf-F V Outline Outline → Outline
whole_step g depth = outlined depth (PaneAt g.bounds) ∷ all_at (depth + 1) g.members.items

-- the outline of a member, and of a group as a pane, by the leaf that each view means
unfoldable pub outline_member : {V : Type 0} → (V → Leaf) → MemberOf V → Outline
outline_member {V} look m = fold-MemberOf V Outline Outline (part_step look) whole_step m

unfoldable pub outline : {V : Type 0} → (V → Leaf) → GroupOf V → Outline
outline {V} look g = fold-GroupOf V Outline Outline (part_step look) whole_step g

-- the outline of members one after the other
abbrev pub joined_outline : {V : Type 0} → (V → Leaf) → List (MemberOf V) → Outline
joined_outline look members depth = all_at depth (map (outline_member look) members)

-- the outline of its members alone
abbrev pub members_outline : {V : Type 0} → (V → Leaf) → GroupOf V → Outline
members_outline look g = joined_outline look g.members.items

-- ---- what nodes declare

-- a pane with its rectangle, or a leaf before any event
abbrev pub part_of : Node → Part
part_of node = if is_pane node.kind then PaneAt (place_of_node node) else LeafAt (fresh node)

-- a view in the body of its window or dialog
abbrev pub declared : Node → Outlined
declared node = outlined (node.depth + 1) (part_of node)

-- windows and dialogs have a body, which fills them
abbrev pub has_body : Kind → Bool
has_body (kinds.Window head) = true
has_body (kinds.Dialog head) = true
has_body _ = false

abbrev pub body_bounds : Node → Rect
body_bounds owner = rect (pos 0) (pos 0) owner.w (height_of owner.kind)

-- the group is the body of a window or dialog with these views, as it is before any event
pub record IsFreshBody {V : Type 0} (look : V → Leaf) (owner : Node) (views : List Node)
    (g : GroupOf V) : Type 0 where
  pub body : IsTrue (has_body owner.kind)
  pub bounds : body_bounds owner ≡ g.bounds
  pub parts : members_outline look g 1 ≡ map declared views
  pub no_current : has_current (opened look g) ≡ false

-- the parts are those that the first nodes declare, and these nodes are left
abbrev pub Follows : List Outlined → List Node → List Node → Type 0
Follows [] nodes rest = nodes ≡ rest
Follows (x ∷ xs) [] rest = ⊥
Follows (x ∷ xs) (node ∷ nodes) rest = (x ≡ declared node) × Follows xs nodes rest
