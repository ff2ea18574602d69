-- Where a window stands, and what it shows.
use Rattle.std.specs.Prelude.{◌≡◌, false, List, Option, Some, None, [], ◌∷◌, ◌++◌}
use Rattle.tv_cells.specs.Picture.{Picture}
use Rattle.tv_cells.specs.Sheets.{inlaid}
use Rattle.tv_cells.specs.Canvas.{sub}
use Rattle.tv_cells.specs.Layers.{Layer, Painted, Shadow}
use Rattle.tv_cells.specs.declared.canvas.Canvas.{Canvas}
use Rattle.tv_cells.specs.declared.rect.Point.{Point}
use Rattle.tv_cells.specs.declared.rect.Rect.{Rect}
use Rattle.tv_group.specs.Opened.{opened}
use Rattle.tv_group.specs.Outline.{IsFreshBody}
use Rattle.tv_group.specs.declared.group.GroupOf.{GroupOf}
use Rattle.tv_model.specs.Screen.Faces.{frame_face, frame_look}
use Rattle.tv_view.specs.Meaning.{Leaf}
use Rattle.tv_model.specs.declared.node.Node.{Node}
use Rattle.tv_model.specs.Description.Numbers.{natural}
use Rattle.tv_model.specs.Description.Rectangles.{corner_of, rect}
use Rattle.tv_palette.specs.Palettes.{colour_in}
use Rattle.tv_palette.specs.declared.role.Owner.TheVariants as owners
use Rattle.tv_view.specs.Drawing.{leaves_layers}
use Rattle.tv_view.specs.declared.env.Env.{Env}
use Rattle.tv_window.specs.Head.{KeptWindowHead, declared_window_head}
use Rattle.tv_window.specs.declared.window.WindowOf.{WindowOf}

abbrev pub head_of : {V : Type 0} → WindowOf V → KeptWindowHead
head_of window = window.head

abbrev pub body_of : {V : Type 0} → WindowOf V → GroupOf V
body_of window = window.body

-- its rectangle on the screen
abbrev pub window_bounds : {V : Type 0} → WindowOf V → Rect
window_bounds window = rect window.corner.x window.corner.y window.head.w window.head.h

-- the same window with its corner elsewhere
abbrev pub moved_to : {V : Type 0} → Point → WindowOf V → WindowOf V
moved_to corner window = record window { corner = corner }

-- the same window with another sheet
abbrev pub laid_to : {V : Type 0} → Option Picture → WindowOf V → WindowOf V
laid_to sheet window = record window { sheet = sheet }

-- the window of a node, with these views in its body, wherever it stands
pub record IsWindowOf {V : Type 0} (look : V → Leaf) (node : Node) (views : List Node)
    (window : WindowOf V) : Type 0 where
  pub head : Some (head_of window) ≡ declared_window_head node
  pub body : IsFreshBody look node views (body_of window)

-- the same where it is declared, as it is before any event
pub record IsFreshWindow {V : Type 0} (look : V → Leaf) (node : Node) (views : List Node)
    (window : WindowOf V) : Type 0 where
  pub of : IsWindowOf look node views window
  pub corner : window.corner ≡ corner_of node
  pub sheet : window.sheet ≡ None

-- the frame with what it surrounds, in a canvas of its own
abbrev pub window_frame_layer : Env → Canvas → Option Picture → KeptWindowHead → Layer
window_frame_layer env place sheet head = Painted place (natural head.w) (natural head.h)
    (inlaid sheet (natural head.w) (natural head.h) (frame_face (natural head.w) (natural head.h) head.title
    (frame_look (colour_in env.chain.now) owners.Window (natural head.number) env.is_active)))

-- the leaves of the body in the window's rectangle, the last on top, and the frame below them
abbrev pub drawn_window : {V : Type 0} → (V → Leaf) → Env → Canvas → WindowOf V → List Layer
drawn_window look env c window =
    leaves_layers env (sub c (window_bounds window)) (opened look window.body)
    ++ window_frame_layer env (sub c (window_bounds window)) window.sheet window.head ∷ []

-- windows from the front, each with its shadow below it; none behind the front one is active
abbrev pub drawn_stack : {V : Type 0} → (V → Leaf) → Env → Canvas → List (WindowOf V) → List Layer
drawn_stack look env c [] = []
drawn_stack look env c (front ∷ behind) =
    drawn_window look env c front
    ++ Shadow c (window_bounds front) ∷ drawn_stack look (record env { is_active = false }) c behind
