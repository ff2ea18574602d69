-- What a dialog lends its views, and what it shows.
use Rattle.std.specs.Prelude.{List, [], ◌∷◌, ◌++◌, Option, Some, if◌then◌else◌}
use Rattle.tv_cells.specs.Canvas.{sub}
use Rattle.tv_cells.specs.Layers.{Layer, Painted}
use Rattle.tv_cells.specs.Sheets.{inlaid}
use Rattle.tv_cells.specs.declared.canvas.Canvas.{Canvas}
use Rattle.tv_group.specs.Opened.{opened}
use Rattle.tv_model.specs.declared.node.Id.{Id}
use Rattle.tv_view.specs.Meaning.{Leaf}
use Rattle.tv_model.specs.Description.Numbers.{natural}
use Rattle.tv_model.specs.Screen.Faces.{frame_face, frame_look}
use Rattle.tv_palette.specs.Palettes.{colour_in}
use Rattle.tv_palette.specs.declared.role.Owner.TheVariants as owners
use Rattle.tv_view.specs.Drawing.{leaves_layers}
use Rattle.tv_view.specs.declared.env.Env.{Env}
use Rattle.tv_dialog.specs.Bounds.{dialog_bounds}
use Rattle.tv_dialog.specs.Plan.{has_button_at}
use Rattle.tv_dialog.specs.declared.dialog.DialogOf.{DialogOf}
use Rattle.tv_dialog.specs.declared.plan.Plan.{Plan}

-- what Enter presses: the focus if it is a button, else the declared default button
abbrev pub default_now : Plan → Id → Option Id
default_now plan focus = if has_button_at plan.leaves focus then Some focus else plan.default_button

-- what the views are lent, where the focus is here
abbrev pub lent : Plan → Id → Env → Env
lent plan focus env = record env { focus = Some focus; default_now = default_now plan focus }

-- the frame with what it surrounds and the sheet that lies there, in the dialog's rectangle
abbrev pub dialog_frame_layer : {V : Type 0} → Env → Canvas → DialogOf V → Layer
dialog_frame_layer env c dialog =
    Painted (sub c (dialog_bounds dialog)) (natural dialog.head.w) (natural dialog.head.h)
    (inlaid dialog.sheet (natural dialog.head.w) (natural dialog.head.h)
    (frame_face (natural dialog.head.w) (natural dialog.head.h) dialog.head.title
    (frame_look (colour_in env.chain.now) owners.Dialog 0 env.is_active)))

-- the leaves of the body in the dialog's rectangle, the last on top, and the frame below them
abbrev pub drawn_dialog : {V : Type 0} → (V → Leaf) → Env → Canvas → DialogOf V → List Layer
drawn_dialog look env c dialog =
    leaves_layers (lent dialog.plan dialog.focus env) (sub c (dialog_bounds dialog)) (opened look dialog.body)
    ++ dialog_frame_layer env c dialog ∷ []
