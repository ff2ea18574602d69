-- The leaves of a dialog or window: its controls, labels and static texts, panes opened out.
use Rattle.std.specs.Prelude.{[], ℕ, List, ◌∷◌, filter, ℤ, ◌+ℤ◌, nat_lt, if◌then◌else◌}
use Rattle.tv_cells.specs.declared.rect.Point.{Point}
use Rattle.tv_cells.specs.declared.rect.Rect.{Rect}
use Rattle.tv_model.specs.declared.node.Node.{Node}
use Rattle.tv_model.specs.Description.Nodes.{height_of, is_pane}
use Rattle.tv_model.specs.Description.Rectangles.{rect}

-- a leaf, and the panes around it from the innermost out
pub record PlacedNode : Type 0 where
  pub node : Node
  pub panes : List Node

-- the panes that are still open at a view of this depth: those less deep
abbrev pub open_at : ℕ → List Node → List Node
open_at depth panes = filter (λ pane. nat_lt pane.depth depth) panes

-- the panes that are open after a view, which may be one itself
abbrev pub open_after : List Node → Node → List Node
open_after panes view =
    if is_pane view.kind then view ∷ open_at view.depth panes else open_at view.depth panes

-- a view before leaves: it is one of them unless it is a pane
abbrev pub leaf_before : List Node → Node → List PlacedNode → List PlacedNode
leaf_before panes view leaves =
    if is_pane view.kind then leaves else record { node = view; panes = open_at view.depth panes } ∷ leaves

-- one pass over views, with the panes that are open
abbrev pub leaves_in : List Node → List Node → List PlacedNode
leaves_in panes [] = []
leaves_in panes (view ∷ views) = leaf_before panes view (leaves_in (open_after panes view) views)

-- the leaves among the views of a dialog or window, in description order
abbrev pub leaf_list : List Node → List PlacedNode
leaf_list views = leaves_in [] views

-- the columns from a corner to that of what stands around it, summed up
abbrev pub column_in : List Node → ℤ → ℤ
column_in [] x = x
column_in (pane ∷ panes) x = column_in panes (pane.x +ℤ x)

-- the rows likewise
abbrev pub row_in : List Node → ℤ → ℤ
row_in [] y = y
row_in (pane ∷ panes) y = row_in panes (pane.y +ℤ y)

-- the corner of a leaf, seen from that of its dialog or window
abbrev pub corner_on : PlacedNode → Point
corner_on leaf = record { x = column_in leaf.panes leaf.node.x; y = row_in leaf.panes leaf.node.y }

-- its rectangle, seen from there
abbrev pub rect_on : PlacedNode → Rect
rect_on leaf = rect (corner_on leaf).x (corner_on leaf).y leaf.node.w (height_of leaf.node.kind)
