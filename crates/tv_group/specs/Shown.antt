-- The open dialog on the screen, as the machine shows it.
use Rattle.std.specs.Prelude.{◌≡◌, true, List, pos}
use Rattle.tv_cells.specs.Canvas.{sub}
use Rattle.tv_cells.specs.Layers.{Layer, Shadow}
use Rattle.tv_cells.specs.declared.canvas.Canvas.{Canvas}
use Rattle.tv_cells.specs.declared.rect.Rect.{Rect}
use Rattle.tv_model.specs.declared.node.Id.{Id}
use Rattle.tv_model.specs.declared.desc.Desc.{Desc}
use Rattle.tv_model.specs.declared.desc.Dialog.{Dialog}
use Rattle.tv_model.specs.Description.Nodes.{height_of}
use Rattle.tv_model.specs.Description.Rectangles.{desktop, rect}
use Rattle.tv_machine.specs.Screen.Bodies.{canvas_at}
use Rattle.tv_palette.specs.Chain.{coloured}
use Rattle.tv_palette.specs.Palettes.{owners_of_part}
use Rattle.tv_palette.specs.declared.role.Owner.TheVariants as owners
use Rattle.tv_machine.specs.State.{OpenDialog}
use Rattle.tv_machine.specs.Dialog.Modal.{Modal}
use Rattle.tv_view.specs.declared.env.Env.{Env}

-- the desktop, seen from the corner of the screen
abbrev pub desktop_canvas : Desc → Canvas
desktop_canvas desc = canvas_at (desktop desc) (pos 0) (pos 0)

-- the rectangle of the open dialog on the desktop
abbrev pub open_bounds : OpenDialog → Dialog → Rect
open_bounds o d = rect o.origin.x o.origin.y d.node.w (height_of d.node.kind)

-- what it is drawn through
abbrev pub dialog_canvas : Desc → OpenDialog → Dialog → Canvas
dialog_canvas desc o d = sub (desktop_canvas desc) (open_bounds o d)

-- its shadow, which lies below it
abbrev pub shadow_layer : Desc → OpenDialog → Dialog → Layer
shadow_layer desc o d = Shadow (desktop_canvas desc) (open_bounds o d)

-- what a dialog lends to its views: the toolkit's palettes
pub record IsOfDialog (env : Env) : Type 0 where
  pub owner : env.owner ≡ owners.Dialog
  pub chain : coloured env.chain.now ≡ owners_of_part owners.Dialog

-- the machine's dialog at work is the one that is open
pub record IsAtWork (o : OpenDialog) (overwriting : List Id) (m : Modal) : Type 0 where
  pub leaves : m.leaves ≡ o.leaves
  pub focus : m.focus ≡ o.focus
  pub overwriting_in : m.overwriting ≡ overwriting

-- the dialog at work is the open one, and it is drawn as the active one
pub record IsShown (d : Dialog) (o : OpenDialog) (overwriting : List Id) (m : Modal)
    (env : Env) : Type 0 where
  pub work : IsAtWork o overwriting m
  pub views : env.views.now ≡ d.views
  pub palettes : IsOfDialog env
  pub active : env.is_active ≡ true
