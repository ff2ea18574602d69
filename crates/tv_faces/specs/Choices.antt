-- How the faces of clusters and lists name what the definitions of faces speak of.
use Rattle.std.specs.Prelude.{ℕ, ◌++◌, ◌&&◌, Option, Some, slice_get, ◌+◌, ◌==◌, if◌then◌else◌}
use Rattle.tv_cells.specs.Glyph.{Glyph, shown}
use Rattle.tv_faces.specs.declared.cluster.ClusterFace.{ClusterFace}
use Rattle.tv_faces.specs.declared.cluster.ClusterMarks.{ClusterMarks}
use Rattle.tv_faces.specs.declared.cluster.ClusterMarks.TheVariants as marks
use Rattle.tv_faces.specs.declared.cluster.ItemRow.{ItemRow}
use Rattle.tv_faces.specs.declared.list.ListFace.{ListFace}
use Rattle.tv_model.specs.Controls.Contents.{text_at}
use Rattle.tv_model.specs.Kinds.Cluster.{is_marked, cluster_row}
use Rattle.tv_model.specs.Controls.Look.{is_mark_from}
use Rattle.tv_model.specs.Kinds.ListBox.{list_role}
use Rattle.tv_model.specs.Controls.Shortcut.{ClusterKind, Boxes, Radios}
use Rattle.tv_model.specs.Screen.Faces.{FaceOf, text_row}
use Rattle.tv_model.specs.declared.record.Value.{Value}
use Rattle.tv_model.specs.declared.record.Value.TheVariants as values
use Rattle.tv_palette.specs.Palettes.{colour_in}
use Rattle.tv_palette.specs.declared.role.Role.TheVariants as roles

-- which cluster has such marks
abbrev pub cluster_of_marks : ClusterMarks → ClusterKind
cluster_of_marks (marks.Boxes boxes) = Boxes
cluster_of_marks marks.Radios = Radios

-- the value of a cluster with such marks, where the item is the selected one
abbrev pub value_of_marks : ClusterMarks → ℕ → Option Value
value_of_marks (marks.Boxes boxes) selected = Some (values.Marks boxes)
value_of_marks marks.Radios selected = Some (values.Item selected)

-- an item a row
abbrev pub cluster_cells : ClusterFace → FaceOf
cluster_cells f x y =
    cluster_row (colour_in f.chain.now) (cluster_of_marks f.marks) (f.is_focused && (f.selected == y + 1))
    (is_marked (value_of_marks f.marks f.selected) (y + 1)) (slice_get f.items.now y) x

-- an item a row, from that of the top row on
abbrev pub list_cells : ListFace → FaceOf
list_cells f x y =
    shown (text_row (text_at f.items.now (f.top + y)) x)
    (colour_in f.chain.now (roles.List (list_role f.is_focused (f.chosen == f.top + y))))

-- the cells of a row with an item of a cluster
abbrev pub item_cells : ItemRow → ℕ → Glyph
item_cells row x =
    shown (text_row (row.before ++ row.text.now) x)
    (if is_mark_from 4 row.mark x then row.letter else row.rest)
