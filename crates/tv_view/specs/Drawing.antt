-- What views draw: layers on top of what a screen shows.
use Rattle.std.specs.Prelude.{List, [], ◌∷◌, ◌++◌, map, Bool, ◌&&◌, pos, neg_ℤ, if◌then◌else◌}
use Rattle.std.specs.Int.Signed.{le_z}
use Rattle.tv_cells.specs.Canvas.{sub}
use Rattle.tv_cells.specs.Layers.{Layer, Painted}
use Rattle.tv_cells.specs.declared.rect.Point.{Point}
use Rattle.tv_cells.specs.declared.rect.Rect.{Rect}
use Rattle.tv_cells.specs.declared.canvas.Canvas.{Canvas}
use Rattle.tv_model.specs.Description.Numbers.{natural}
use Rattle.tv_model.specs.Description.Nodes.{height_of}
use Rattle.tv_model.specs.Screen.Faces.{FaceOf}
use Rattle.tv_view.specs.Meaning.{Leaf, Placed, bounds_of}
use Rattle.tv_machine.specs.Screen.LeafFaces.{leaf_faces}
use Rattle.tv_view.specs.declared.env.Env.{Env}
use Rattle.tv_view.specs.Colours.{colour, lent_look}
use Rattle.tv_view.specs.Fields.{content_of}

-- the face of a leaf, by its kind
abbrev pub faces_of : Env → Leaf → List FaceOf
faces_of env leaf =
    leaf_faces (colour env) env.owner (lent_look env leaf) (natural leaf.node.w) leaf.node.kind
    (content_of leaf)

-- a leaf, seen from the canvas's origin: its face in its rectangle, nothing where it is hidden
unfoldable pub leaf_layers : Env → Canvas → Leaf → List Layer
leaf_layers env c leaf =
    if leaf.is_shown
    then map (λ face.
    Painted (sub c (bounds_of leaf)) (natural leaf.node.w) (natural (height_of leaf.node.kind)) face)
    (faces_of env leaf)
    else []

-- an origin so near that every rectangle of the screen's size can be seen from it
abbrev pub is_near : Point → Bool
is_near p =
    (le_z (neg_ℤ (pos 100000)) p.x && le_z p.x (pos 100000))
    && (le_z (neg_ℤ (pos 100000)) p.y && le_z p.y (pos 100000))

-- a leaf in the groups around it, each of which cuts it and moves the origin. What lies too far away isn't
-- drawn
abbrev pub layers_in : Env → Canvas → List Rect → Leaf → List Layer
layers_in env c [] leaf = leaf_layers env c leaf
layers_in env c (bounds ∷ around) leaf =
    if is_near (sub c bounds).origin then layers_in env (sub c bounds) around leaf else []

-- leaves one after the other: the last is on top
abbrev pub leaves_layers : Env → Canvas → List Placed → List Layer
leaves_layers env c [] = []
leaves_layers env c (x ∷ xs) = leaves_layers env c xs ++ layers_in env c x.around x.leaf
