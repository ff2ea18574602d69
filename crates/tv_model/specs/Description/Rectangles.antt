-- Rectangles of the desktop and of views, and what two rectangles have in common.
use Rattle.std.specs.Prelude.{Bool, not, ◌&&◌, ◌||◌, ℤ, pos, ◌+ℤ◌, ◌-ℤ◌, int_le, int_lt}
use Rattle.tv_cells.specs.Rectangle.{LiesWithin}
use Rattle.tv_cells.specs.declared.rect.Point.{Point}
use Rattle.tv_cells.specs.declared.rect.Rect.{Rect}
use Rattle.tv_model.specs.declared.node.Node.{Node}
use Rattle.tv_model.specs.declared.desc.Desc.{Desc}
use Rattle.tv_model.specs.Description.Nodes.{height_of}

-- a rectangle by its corner, its width and its height
abbrev pub rect : ℤ → ℤ → ℤ → ℤ → Rect
rect x y w h = record { a = record { x = x; y = y }; b = record { x = x +ℤ w; y = y +ℤ h } }

-- where the corner of a node stands: that of a window or dialog on the screen, a view's seen from its owner
abbrev pub corner_of : Node → Point
corner_of node = record { x = node.x; y = node.y }

-- a view's rectangle, seen from its owner
abbrev pub place_of_node : Node → Rect
place_of_node node = rect node.x node.y node.w (height_of node.kind)

-- a window or dialog without its frame
abbrev pub interior : Node → Rect
interior node = rect (pos 1) (pos 1) (node.w -ℤ pos 2) (height_of node.kind -ℤ pos 2)

-- all of a pane
abbrev pub whole_area : Node → Rect
whole_area node = rect (pos 0) (pos 0) node.w (height_of node.kind)

-- the screen without its first and last row
abbrev pub desktop : Desc → Rect
desktop d = rect (pos 0) (pos 1) d.width (d.height -ℤ pos 2)

-- whether it is not empty
abbrev pub has_points : Rect → Bool
has_points r = int_lt r.a.x r.b.x && int_lt r.a.y r.b.y

-- every point of the first lies in the second
abbrev pub is_within : Rect → Rect → Bool
is_within r s =
    not (has_points r)
    || ((int_le s.a.x r.a.x && int_le r.b.x s.b.x) && (int_le s.a.y r.a.y && int_le r.b.y s.b.y))

-- some point lies in both
abbrev pub overlap : Rect → Rect → Bool
overlap r s =
    (has_points r && has_points s)
    && ((int_lt r.a.x s.b.x && int_lt s.a.x r.b.x) && (int_lt r.a.y s.b.y && int_lt s.a.y r.b.y))

-- ---- where views may stand

-- a coordinate that the bounds of a view may have
abbrev pub IsSmall : ℤ → Type 0
IsSmall z = LiesWithin 300 z

-- a rectangle that the bounds of a view may be
pub record IsSmallRect (r : Rect) : Type 0 where
  pub left : IsSmall r.a.x
  pub top : IsSmall r.a.y
  pub right : IsSmall r.b.x
  pub bottom : IsSmall r.b.y
