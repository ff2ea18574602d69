-- The layers of the screen, from the top.
use Rattle.std.specs.Prelude.{[], ℕ, Bool, false, not, List, ◌∷◌, ◌++◌, map, flat_map, filter, reverse}
use Rattle.std.specs.Prelude.{Option, Some, None, is_none, option_map, slice_get, slice_index_or, pos, ◌+ℤ◌}
use Rattle.std.specs.Prelude.{◌-ℤ◌}
use Rattle.tv_cells.specs.Layers.{Layer, Painted, Shadow}
use Rattle.tv_cells.specs.Rectangle.{sized}
use Rattle.tv_cells.specs.Picture.{Picture}
use Rattle.tv_cells.specs.declared.canvas.Canvas.{Canvas}
use Rattle.tv_cells.specs.declared.rect.Point.{Point}
use Rattle.tv_model.specs.declared.node.Id.{Id}
use Rattle.tv_model.specs.declared.node.Node.{Node}
use Rattle.tv_model.specs.declared.kind.Kind.{Kind}
use Rattle.tv_model.specs.Kinds.{behaviour}
use Rattle.tv_model.specs.declared.desc.Desc.{Desc}
use Rattle.tv_model.specs.declared.desc.Dialog.{Dialog}
use Rattle.tv_model.specs.declared.desc.Menu.{Menu}
use Rattle.tv_model.specs.declared.desc.Window.{Window}
use Rattle.tv_model.specs.Description.Commands.{command_number}
use Rattle.tv_model.specs.Description.Names.{meant}
use Rattle.tv_model.specs.Description.Nodes.{has_id, height_of}
use Rattle.tv_model.specs.Description.Numbers.{natural}
use Rattle.tv_model.specs.Description.Rectangles.{desktop}
use Rattle.tv_model.specs.Screen.Faces.{FaceOf}
use Rattle.tv_machine.specs.Screen.Bodies.{canvas_at, whole_screen, background_layer, is_default_now}
use Rattle.tv_machine.specs.Screen.Bodies.{body_layers, window_body_layers, window_of}
use Rattle.tv_palette.specs.Attributes.{attribute_of}
use Rattle.tv_palette.specs.declared.role.Owner.TheVariants as owners
use Rattle.tv_machine.specs.State.{State, OpenDialog, OpenMenu, OpenWindow}
use Rattle.tv_machine.specs.Leaves.{PlacedNode, leaf_list, corner_on}
use Rattle.tv_machine.specs.Dialog.Rules.{is_visible, is_enabled, content_held, content_by}
use Rattle.tv_machine.specs.Session.Enabled.{is_enabled_now}
use Rattle.tv_model.specs.Controls.Look.{Look}
use Rattle.tv_machine.specs.Screen.LeafFaces.{leaf_faces}
use Rattle.tv_machine.specs.Screen.Bars.{bar_face, box_face, box_of, box_width, box_height, status_face}

-- ---- the bar, the status line and the box of an open menu

-- the place of the open menu
abbrev pub open_place : Option OpenMenu → Option ℕ
open_place o = option_map (λ menu. menu.menu) o

-- row 0 is the menu bar
abbrev pub bar_layer : Desc → Option OpenMenu → Layer
bar_layer d o =
    Painted (canvas_at (whole_screen d) (pos 0) (pos 0)) (natural d.width) 1 (bar_face d (open_place o))

-- the last row is the status line. An item is enabled while its command is
abbrev pub status_layer : Desc → State → Layer
status_layer d s =
    Painted (canvas_at (whole_screen d) (pos 0) (d.height -ℤ pos 1)) (natural d.width) 1
    (status_face d (λ item. is_enabled_now d s (command_number item.command)))

-- the box of the menu that is open, and its shadow
abbrev pub box_layers : Desc → Option OpenMenu → List Layer
box_layers d None = []
box_layers d (Some o) = boxed (slice_get d.menus o.menu)
  where
    place : Canvas
    place = canvas_at (desktop d) (box_of d o.menu).a.x (box_of d o.menu).a.y

    boxed : Option Menu → List Layer
    boxed None = []
    boxed (Some menu) =
        Painted place (box_width menu) (box_height menu) (box_face menu o.item)
        ∷ Shadow place (sized (box_width menu) (box_height menu)) ∷ []

-- ---- leaves

-- the faces of a leaf in a window or dialog whose corner is here
abbrev pub layers_of_leaf : Desc → Point → PlacedNode → List FaceOf → List Layer
layers_of_leaf d origin leaf faces =
    map (Painted place (natural leaf.node.w) (natural (height_of leaf.node.kind))) faces
  where
    place : Canvas
    place = canvas_at (desktop d) (origin.x +ℤ (corner_on leaf).x) (origin.y +ℤ (corner_on leaf).y)

-- whether it is there, and has the focus
abbrev pub is_focus : Id → Option Node → Bool
is_focus focus None = false
is_focus focus (Some node) = has_id focus node

-- a label is linked to what its link means among the views of the dialog
abbrev pub is_linked_by : List Node → Id → Option (List ℕ) → Bool
is_linked_by views focus None = false
is_linked_by views focus (Some name) = is_focus focus (meant views name)

-- whether what a leaf links has the focus
abbrev pub is_linked : List Node → Id → Kind → Bool
is_linked views focus kind = is_linked_by views focus (behaviour kind).link

-- how a leaf of the open dialog stands
abbrev pub look_of : Dialog → OpenDialog → Node → Look
look_of dialog o node = record {
  is_focused = has_id o.focus node;
  is_default_now = is_default_now dialog.views o.focus node;
  is_disabled = not (is_enabled dialog o.leaves node);
  is_linked = is_linked dialog.views o.focus node.kind;
}

-- ---- the open dialog

-- a leaf of the open dialog with what it holds, where typing overwrites in these inputs
abbrev pub dialog_leaf : Desc → Dialog → OpenDialog → List Id → PlacedNode → List Layer
dialog_leaf d dialog o overwriting leaf =
    layers_of_leaf d o.origin leaf
    (leaf_faces attribute_of owners.Dialog (look_of dialog o leaf.node) (natural leaf.node.w)
    leaf.node.kind (content_held o.leaves overwriting leaf.node.id))

-- the leaves that are visible, the last on top, the body and its shadow
abbrev pub dialog_layers : Desc → OpenDialog → List Id → Dialog → List Layer
dialog_layers d o overwriting dialog =
    flat_map (dialog_leaf d dialog o overwriting)
    (reverse (filter (is_visible dialog o.leaves) (leaf_list dialog.views)))
    ++ body_layers d o.origin o.sheet dialog

-- the open dialog, if there is one
abbrev pub open_layers : Desc → List (List Id) → Option OpenDialog → List Layer
open_layers d overwriting None = []
open_layers d overwriting (Some o) = shown (slice_get d.dialogs o.place)
  where
    shown : Option Dialog → List Layer
    shown None = []
    shown (Some dialog) = dialog_layers d o (slice_index_or overwriting o.place []) dialog

-- ---- windows

-- how a leaf of a window stands, which neither has the focus nor gets a command
abbrev pub still : Look
still = record { is_focused = false; is_default_now = false; is_disabled = false; is_linked = false }

-- a leaf of a window, which holds nothing
abbrev pub window_leaf : Desc → Point → PlacedNode → List Layer
window_leaf d origin leaf =
    layers_of_leaf d origin leaf
    (leaf_faces attribute_of owners.Window still (natural leaf.node.w) leaf.node.kind
    (content_by false None))

-- its texts, the last on top, the body and its shadow
abbrev pub window_layers : Desc → Bool → Point → Option Picture → Window → List Layer
window_layers d is_active origin sheet window =
    flat_map (window_leaf d origin) (reverse (leaf_list window.views))
    ++ window_body_layers d is_active origin sheet window

-- windows from the front; no other than the first may be active
abbrev pub stack_layers : Desc → Bool → List OpenWindow → List Layer
stack_layers d is_active [] = []
stack_layers d is_active (o ∷ behind) = shown (window_of d o.id) ++ stack_layers d false behind
  where
    shown : Option Window → List Layer
    shown None = []
    shown (Some window) = window_layers d is_active o.origin o.sheet window

-- ---- the screen

-- the desktop from the top: the open dialog is active, else the front window is
abbrev pub desktop_layers : Desc → State → List Layer
desktop_layers d s =
    box_layers d s.menu
    ++ (open_layers d s.overwriting s.dialog
    ++ (stack_layers d (is_none s.dialog) s.windows ++ background_layer d ∷ []))

-- the bar and the status line, and the desktop between them
abbrev pub layers_of : Desc → State → List Layer
layers_of d s = bar_layer d s.menu ∷ status_layer d s ∷ desktop_layers d s
