-- Views by what they take of their owner.
use Rattle.std.specs.Prelude.{ℕ, ◌+◌, List, [], ◌∷◌, if◌then◌else◌}
use Rattle.tv_model.specs.declared.node.Node.{Node}
use Rattle.tv_model.specs.declared.kind.Kind.{Kind}
use Rattle.tv_cells.specs.declared.rect.Rect.{Rect}
use Rattle.tv_model.specs.Description.Nodes.{is_control, is_pane}
use Rattle.tv_model.specs.Description.Rectangles.{has_points, place_of_node}
use Rattle.tv_overlaps.specs.declared.span.Span.{Span}
use Rattle.tv_overlaps.specs.declared.placed.Placed.{Placed}

-- the rows of a rectangle
abbrev pub rows : Rect → Span
rows r = record { low = r.a.y; high = r.b.y }

-- the columns of a rectangle
abbrev pub columns : Rect → Span
columns r = record { low = r.a.x; high = r.b.x }

-- how much of a point it takes, of which a point has 3
abbrev pub weight_of : Kind → ℕ
weight_of kind = if is_pane kind then 3 else (if is_control kind then 2 else 1)

-- a view at this place, of the owner of this number
abbrev pub placed_view : ℕ → ℕ → Node → Placed
placed_view place owner view = record {
  place = place;
  owner = owner;
  rows = rows (place_of_node view);
  columns = columns (place_of_node view);
  weight = weight_of view.kind;
}

-- those of the views that have points, each view with the number of its owner, from this place on
abbrev pub placed_from : ℕ → List (ℕ × Node) → List Placed
placed_from place [] = []
placed_from place (pair ∷ pairs) =
    if has_points (place_of_node pair.1) then placed_view place pair.0 pair.1 ∷ placed_from (place + 1) pairs
    else placed_from (place + 1) pairs
