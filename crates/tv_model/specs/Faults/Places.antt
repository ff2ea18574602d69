-- Faults of places: F2 and F3.
use Rattle.std.specs.Prelude.{Bool, not, ◌&&◌, ◌||◌, List}
use Rattle.std.specs.List.{list_any}
use Rattle.tv_model.specs.declared.node.Node.{Node}
use Rattle.tv_model.specs.declared.kind.Kind.{Kind}
use Rattle.tv_model.specs.declared.desc.Desc.{Desc}
use Rattle.tv_model.specs.declared.desc.Dialog.{Dialog}
use Rattle.tv_model.specs.Description.Nodes.{is_control, is_pane}
use Rattle.tv_model.specs.Description.Rectangles.{place_of_node, desktop, is_within, overlap}
use Rattle.tv_model.specs.Description.Panes.{owner_of, room_in, earlier_siblings}

-- ---- the faults

-- F2: a dialog not within the desktop
abbrev pub is_off_desktop : Desc → Dialog → Bool
is_off_desktop d dialog = not (is_within (place_of_node dialog.node) (desktop d))

-- F2: a view not within its owner's interior
abbrev pub is_outside : Node → List Node → Node → Bool
is_outside frame before node = not (is_within (place_of_node node) (room_in frame (owner_of before node)))

-- one of the two is a pane, or both are controls
abbrev pub need_own_places : Kind → Kind → Bool
need_own_places one other = (is_pane one || is_pane other) || (is_control one && is_control other)

-- F3: a view that overlaps an earlier sibling, where one of the two is a pane or both are controls
abbrev pub overlaps_earlier : List Node → Node → Bool
overlaps_earlier before node =
    list_any (λ other.
    need_own_places other.kind node.kind && overlap (place_of_node other) (place_of_node node))
    (earlier_siblings before node)
