-- Views that have to do with the place of a view: its owner, and a sibling that it overlaps.
use Rattle.std.specs.Prelude.{ℕ, ◌&&◌, List, find, Option}
use Rattle.std.specs.Option.{option_map_or}
use Rattle.tv_model.specs.declared.node.Node.{Node}
use Rattle.tv_model.specs.Description.Panes.{earlier_siblings, owner_of}
use Rattle.tv_model.specs.Description.Rectangles.{overlap, place_of_node}
use Rattle.tv_model.specs.Faults.Places.{need_own_places}

-- F2: the line of what the view stands in: its pane, or the frame of its window or dialog
abbrev pub owner_line : Node → List Node → Node → ℕ
owner_line frame before node = option_map_or (λ pane. pane.id.0) (owner_of before node) frame.id.0

-- F3: the nearest of the earlier siblings that the view overlaps and may not
abbrev pub overlapped : List Node → Node → Option Node
overlapped before node =
    find (λ other. need_own_places other.kind node.kind && overlap (place_of_node other) (place_of_node node))
    (earlier_siblings before node)
