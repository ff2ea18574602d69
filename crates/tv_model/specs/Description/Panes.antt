-- Panes, and what stands in them. The views of a window or dialog stand in one list: what stands in a pane
-- comes after it, one pane deeper.
use Rattle.std.specs.Prelude.{[], ℕ, List, ◌∷◌, reverse, filter, take_while, find, Option, Some, None, ◌==◌}
use Rattle.std.specs.Prelude.{nat_le, nat_lt, if◌then◌else◌}
use Rattle.tv_cells.specs.declared.rect.Rect.{Rect}
use Rattle.tv_model.specs.declared.node.Node.{Node}
use Rattle.tv_model.specs.Description.Rectangles.{interior, whole_area}

-- going back over views from one of this depth: those around it, the innermost first
abbrev pub around : ℕ → List Node → List Node
around depth [] = []
around depth (view ∷ earlier) =
    if nat_lt view.depth depth then view ∷ around view.depth earlier else around depth earlier

-- the panes around a view
abbrev pub panes_around : List Node → Node → List Node
panes_around before node = around node.depth (reverse before)

-- the innermost of them; none where the view stands in its window or dialog itself
abbrev pub owner_of : List Node → Node → Option Node
owner_of before node = find (λ other. nat_lt other.depth node.depth) (reverse before)

-- what an owner has room for: a pane all of it, a window or dialog what is inside its frame
abbrev pub room_in : Node → Option Node → Rect
room_in frame None = interior frame
room_in frame (Some pane) = whole_area pane

-- the views before it that have the same owner, the last first
abbrev pub earlier_siblings : List Node → Node → List Node
earlier_siblings before node =
    filter (λ other. other.depth == node.depth)
    (take_while (λ other. nat_le node.depth other.depth) (reverse before))
