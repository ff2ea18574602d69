-- The windows of a description, wherever they stand.
use Rattle.std.specs.Prelude.{◌≡◌, ℤ, ℕ, All, List, [], ◌∷◌, Some, pos}
use Rattle.tv_cells.specs.Rectangle.{IsIn}
use Rattle.tv_cells.specs.declared.canvas.Canvas.{Canvas}
use Rattle.tv_model.specs.Description.Rectangles.{desktop, interior, place_of_node}
use Rattle.tv_machine.specs.Screen.Bodies.{canvas_at, window_of}
use Rattle.tv_view.specs.Meaning.{Leaf}
use Rattle.tv_machine.specs.State.{OpenWindow}
use Rattle.tv_model.specs.declared.desc.Desc.{Desc}
use Rattle.tv_model.specs.declared.desc.Window.{Window}
use Rattle.tv_model.specs.declared.node.Node.{Node}
use Rattle.tv_model.specs.declared.kind.Kind.TheVariants as kinds
use Rattle.tv_palette.specs.Chain.{coloured}
use Rattle.tv_palette.specs.Palettes.{owners_of_part}
use Rattle.tv_palette.specs.declared.role.Owner.TheVariants as owners
use Rattle.tv_view.specs.declared.env.Env.{Env}
use Rattle.tv_window.specs.Head.{IsLimitedWindowHead}
use Rattle.tv_window.specs.Window.{IsWindowOf, head_of}
use Rattle.tv_window.specs.declared.window.WindowOf.{WindowOf}

-- a static text inside the frame of its window
pub record IsTextInside (owner node : Node) : Type 0 where
  pub height : ℤ
  pub text : List ℕ
  pub kind : node.kind ≡ kinds.Text (record { h = height; text = text })
  pub inside : (x y : ℤ) → IsIn (place_of_node node) x y → IsIn (interior owner) x y

-- an open window of the description, where it stands, with static texts inside its frame
pub record IsDeclared {V : Type 0} (look : V → Leaf) (d : Desc) (o : OpenWindow)
    (window : WindowOf V) : Type 0 where
  pub declared : Window
  pub named : window_of d o.id ≡ Some declared
  pub corner : window.corner ≡ o.origin
  pub sheet : window.sheet ≡ o.sheet
  pub of : IsWindowOf look declared.node declared.views window
  pub limited : IsLimitedWindowHead (head_of window)
  pub texts : All (IsTextInside declared.node) declared.views

-- these open windows, one for one
abbrev pub AreDeclared : {V : Type 0} → (V → Leaf) → Desc → List OpenWindow → List (WindowOf V) → Type 0
AreDeclared look d [] [] = Unit {0}
AreDeclared look d [] (window ∷ windows) = ⊥
AreDeclared look d (o ∷ behind) [] = ⊥
AreDeclared look d (o ∷ behind) (window ∷ windows) =
    IsDeclared look d o window × AreDeclared look d behind windows

-- the desktop, seen from the corner of the screen
abbrev pub window_canvas : Desc → Canvas
window_canvas d = canvas_at (desktop d) (pos 0) (pos 0)

-- what a window lends to its views: the toolkit's palettes
pub record IsOfWindow (env : Env) : Type 0 where
  pub owner : env.owner ≡ owners.Window
  pub chain : coloured env.chain.now ≡ owners_of_part owners.Window
