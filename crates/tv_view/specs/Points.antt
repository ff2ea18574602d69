-- Where the point of an event lies, seen from a leaf or from a group.
use Rattle.std.specs.Prelude.{ℕ, Bool, ◌-ℤ◌}
use Rattle.std.specs.Int.{int_gap, saturate_signed, w32}
use Rattle.tv_cells.specs.Layers.{is_in}
use Rattle.tv_cells.specs.declared.rect.Point.{Point}
use Rattle.tv_cells.specs.declared.rect.Rect.{Rect}
use Rattle.tv_event.specs.declared.event.Event.{Event}
use Rattle.tv_event.specs.declared.event.Event.TheVariants as events
use Rattle.tv_view.specs.Meaning.{Leaf, bounds_of}

-- ---- leaves

-- the leaf's rectangle has the point
abbrev pub leaf_has_point : Leaf → Point → Bool
leaf_has_point leaf p = is_in (bounds_of leaf) p.x p.y

-- the column of a point, seen from the leaf's corner
abbrev pub column_of : Leaf → Point → ℕ
column_of leaf p = int_gap (bounds_of leaf).a.x p.x

-- its row likewise
abbrev pub row_of : Leaf → Point → ℕ
row_of leaf p = int_gap (bounds_of leaf).a.y p.y

-- ---- groups

-- a point, seen from the corner of a rectangle. One so far away that no number is left for it comes as near
-- as there is one
abbrev pub point_into : Rect → Point → Point
point_into bounds p = record {
  x = saturate_signed w32 (p.x -ℤ bounds.a.x);
  y = saturate_signed w32 (p.y -ℤ bounds.a.y);
}

-- an event, as a group with these bounds hands it to what stands in it
abbrev pub moved_into : Rect → Event → Event
moved_into bounds (events.Down p) = events.Down (point_into bounds p)
moved_into bounds (events.Up p) = events.Up (point_into bounds p)
moved_into bounds (events.Move p) = events.Move (point_into bounds p)
moved_into bounds (events.Key k) = events.Key k
moved_into bounds (events.Command c) = events.Command c
moved_into bounds (events.Broadcast c) = events.Broadcast c
