-- Where the panes of a dialog stand, seen from the corner of its interior.
use Rattle.std.specs.Prelude.{pos, neg_ℤ, ℕ, List, [], ◌∷◌, find, if◌then◌else◌, Option, Some, None, position, slice_get, take}
use Rattle.std.specs.Option.{option_and_then}
use Rattle.tv_app.specs.Names.{is_called}
use Rattle.tv_cells.specs.Rectangle.{shifted, shifted_point}
use Rattle.tv_cells.specs.declared.rect.Point.{Point}
use Rattle.tv_cells.specs.declared.rect.Rect.{Rect}
use Rattle.tv_model.specs.Description.Heads.{is_named}
use Rattle.tv_model.specs.Description.Nodes.{is_pane}
use Rattle.tv_model.specs.Description.Panes.{panes_around}
use Rattle.tv_model.specs.Description.Rectangles.{corner_of, place_of_node}
use Rattle.tv_model.specs.declared.desc.Desc.{Desc}
use Rattle.tv_model.specs.declared.node.Node.{Node}

-- the corner of what stands in panes, the innermost first, seen from their dialog's: their corners together
abbrev pub corner_within : List Node → Point
corner_within [] = record { x = pos 0; y = pos 0 }
corner_within (pane ∷ outer) = shifted_point (corner_within outer) (corner_of pane)

-- the corner of a frame seen from its interior's
abbrev pub frame_corner : Point
frame_corner = record { x = neg_ℤ (pos 1); y = neg_ℤ (pos 1) }

-- the rectangle of a view that comes after these, seen from its dialog's interior
abbrev pub seen_inside : List Node → Node → Rect
seen_inside before view =
    shifted (place_of_node view) (shifted_point (corner_within (panes_around before view)) frame_corner)

-- that of a pane, and nothing of another view
abbrev pub pane_rect : List Node → Node → Option Rect
pane_rect before view = if is_pane view.kind then Some (seen_inside before view) else None

-- that of the first view of the name
abbrev pub pane_in : List ℕ → List Node → Option Rect
pane_in name views =
    option_and_then (λ place. option_and_then (pane_rect (take place views)) (slice_get views place))
    (position (is_called name) views)

-- the same in the first dialog of the other name
abbrev pub pane_named : Desc → List ℕ → List ℕ → Option Rect
pane_named d dialog pane =
    option_and_then (λ found. pane_in pane found.views) (find (is_named dialog) d.dialogs)
