-- Where groups stand, and what they are made of.
use Rattle.std.specs.Prelude.{◌≡◌, ◌+◌, ℕ, Bool, ◌||◌, pos, List, map, None}
use Rattle.tv_cells.specs.declared.rect.Rect.{Rect}
use Rattle.tv_group.specs.Opened.{group_bounds, joined, level_of, members_level, opened, opened_member}
use Rattle.tv_group.specs.Outline.{has_body, joined_outline, members_outline}
use Rattle.tv_group.specs.declared.group.GroupOf.{GroupOf}
use Rattle.tv_group.specs.declared.group.MemberOf.{MemberOf}
use Rattle.tv_view.specs.Meaning.{Leaf, inside}
use Rattle.tv_model.specs.Description.Nodes.{height_of, is_pane}
use Rattle.tv_model.specs.Description.Rectangles.{rect}
use Rattle.tv_model.specs.declared.kind.Kind.{Kind}
use Rattle.tv_model.specs.declared.kind.Kind.TheVariants as kinds
use Rattle.tv_model.specs.declared.node.Node.{Node}

-- a window's, dialog's or pane's kind
abbrev pub is_group : Kind → Bool
is_group kind = has_body kind || is_pane kind

-- where a group stands: a pane in its place, the body of a window or dialog at its corner
abbrev pub area_of : Node → Kind → Rect
area_of node (kinds.Pane pane) = rect node.x node.y node.w pane.h
area_of node kind = rect (pos 0) (pos 0) node.w (height_of kind)

-- the group of these members, none of them current, in a node's area
pub record IsGroupOf {V : Type 0} (look : V → Leaf) (node : Node) (members : List (MemberOf V))
    (group : GroupOf V) : Type 0 where
  pub bounds : group_bounds group ≡ area_of node node.kind
  pub leaves : opened look group
      ≡ map (inside (area_of node node.kind)) (joined None 0 (map (opened_member look) members))
  -- panes without leaves too
  pub outline : (depth : ℕ) → members_outline look group depth ≡ joined_outline look members depth
  -- one above the highest among the members
  pub level : level_of group ≡ members_level members + 1
