-- The background, and the bodies of windows and dialogs with their shadows.
use Rattle.std.specs.Prelude.{[], ℕ, Bool, true, List, ◌∷◌, find, Option, ℤ, pos, ◌==◌, if◌then◌else◌}
use Rattle.tv_cells.specs.Layers.{Layer, Painted, Shadow}
use Rattle.tv_cells.specs.Rectangle.{sized}
use Rattle.tv_cells.specs.Picture.{Picture}
use Rattle.tv_cells.specs.Sheets.{inlaid}
use Rattle.tv_cells.specs.declared.rect.Rect.{Rect}
use Rattle.tv_cells.specs.declared.canvas.Canvas.{Canvas}
use Rattle.tv_cells.specs.declared.rect.Point.{Point}
use Rattle.tv_model.specs.declared.node.Id.{Id}
use Rattle.tv_model.specs.declared.node.Node.{Node}
use Rattle.tv_model.specs.declared.kind.WindowHead.{WindowHead}
use Rattle.tv_model.specs.declared.kind.DialogHead.{DialogHead}
use Rattle.tv_model.specs.Description.Heads.{window_head, dialog_head}
use Rattle.tv_model.specs.declared.desc.Desc.{Desc}
use Rattle.tv_model.specs.declared.desc.Dialog.{Dialog}
use Rattle.tv_model.specs.declared.desc.Window.{Window}
use Rattle.tv_model.specs.Description.Nodes.{has_id, node_of, is_button_node, is_default}
use Rattle.tv_model.specs.Description.Numbers.{natural}
use Rattle.tv_model.specs.Description.Rectangles.{rect, desktop}
use Rattle.tv_model.specs.Screen.Faces.{background, frame_face, frame_look}
use Rattle.tv_palette.specs.Attributes.{attribute_of}
use Rattle.tv_palette.specs.declared.role.Owner.TheVariants as owners

-- where a layer is drawn: its corner on the screen, and what it is clipped to
abbrev pub canvas_at : Rect → ℤ → ℤ → Canvas
canvas_at clip x y = record { clip = clip; origin = record { x = x; y = y } }

-- all points of the screen
abbrev pub whole_screen : Desc → Rect
whole_screen d = rect (pos 0) (pos 0) d.width d.height

-- the desktop behind everything
abbrev pub background_layer : Desc → Layer
background_layer d =
    Painted (canvas_at (desktop d) (pos 0) (pos 0)) (natural d.width) (natural d.height) background

-- the default now: the focus if it is a button, else the declared default button
abbrev pub is_default_now : List Node → Id → Node → Bool
is_default_now views focus node =
    if is_button_node (node_of views focus) then node.id.0 == focus.0 else is_default node

-- a dialog's body, the frame with the interior, and its shadow
abbrev pub body_layers : Desc → Point → Option Picture → Dialog → List Layer
body_layers d origin sheet dialog =
    Painted place w h (inlaid sheet w h (frame_face w h head.title (frame_look attribute_of owners.Dialog 0 true)))
    ∷ Shadow place (sized w h) ∷ []
  where
    head : DialogHead
    head = dialog_head dialog

    w : ℕ
    w = natural dialog.node.w

    h : ℕ
    h = natural head.h

    place : Canvas
    place = canvas_at (desktop d) origin.x origin.y

-- ---- windows

-- a window's body, the frame with the interior, and its shadow
abbrev pub window_body_layers : Desc → Bool → Point → Option Picture → Window → List Layer
window_body_layers d is_active origin sheet window =
    Painted place w h
    (inlaid sheet w h (frame_face w h head.title
    (frame_look attribute_of owners.Window (natural head.number) is_active)))
    ∷ Shadow place (sized w h) ∷ []
  where
    head : WindowHead
    head = window_head window

    w : ℕ
    w = natural window.node.w

    h : ℕ
    h = natural head.h

    place : Canvas
    place = canvas_at (desktop d) origin.x origin.y

-- the window of an id
abbrev pub window_of : Desc → Id → Option Window
window_of d i = find (λ window. has_id i window.node) d.windows
