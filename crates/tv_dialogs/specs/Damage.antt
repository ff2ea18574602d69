-- What the dialogs of a run show as before but in the damage.
use Rattle.std.specs.Prelude.{◌≡◌, ℕ, ℤ, pos, Bool, true, false, List, Option, Some, None}
use Rattle.tv_cells.specs.Canvas.{aside}
use Rattle.tv_cells.specs.Damage.{HasAll, has, is_part}
use Rattle.tv_cells.specs.Glyph.{Glyph}
use Rattle.tv_cells.specs.Layers.{Layer, cell_over, is_in}
use Rattle.tv_cells.specs.Picture.{Picture}
use Rattle.tv_cells.specs.Rectangle.{shifted}
use Rattle.tv_cells.specs.Repainting.{AreAlike}
use Rattle.tv_cells.specs.declared.rect.Rect.{Rect}
use Rattle.tv_model.specs.declared.desc.Desc.{Desc}
use Rattle.tv_model.specs.declared.desc.Dialog.{Dialog}
use Rattle.tv_machine.specs.Screen.Layers.{open_layers}
use Rattle.tv_machine.specs.State.{State}
use Rattle.tv_group.specs.Shown.{IsOfDialog}
use Rattle.tv_view.specs.Damage.{IsDrawnAlike}
use Rattle.tv_view.specs.Meaning.{Leaf}
use Rattle.tv_view.specs.declared.env.Env.{Env}
use Rattle.tv_dialog.specs.Bounds.{dialog_bounds}
use Rattle.tv_dialog.specs.Drawn.{drawn_dialog}
use Rattle.tv_dialog.specs.declared.dialog.DialogOf.{DialogOf}
use Rattle.tv_dialogs.specs.declared.kept.Kept.{Kept}

-- no point is lost
abbrev pub Keeps : List Rect → List Rect → Type 0
Keeps before after = (x y : ℤ) → has before x y ≡ true → has after x y ≡ true

-- it has a rectangle, and where its shadow falls
pub record HasShadowed (r : Rect) (damage : List Rect) : Type 0 where
  pub own : HasAll r damage
  pub shadow : HasAll (shifted r aside) damage

-- what the open dialog that is declared so is lent
pub record IsLentOpen (d : Dialog) (env : Env) : Type 0 where
  pub views : env.views.now ≡ d.views
  pub palettes : IsOfDialog env
  pub active : env.is_active ≡ true

-- a dialog is drawn as before but in the damage, under what it is lent
pub record KeptDamages {V : Type 0} (look : V → Leaf) (d : Dialog) (old new : DialogOf V)
    (damage : List Rect) : Type 0 where
  pub env : Env
  pub lent : IsLentOpen d env
  pub drawn : IsDrawnAlike damage (λ c. drawn_dialog look env c old) (λ c. drawn_dialog look env c new)

-- a rectangle lies whole in that of a dialog, if there is one
abbrev pub lies_in : {V : Type 0} → Rect → Option (Kept V) → Bool
lies_in r None = false
lies_in r (Some kept) = is_part r (dialog_bounds kept.dialog)

-- in a rectangle of the screen nothing that is below these layers shows
pub record HidesWithin (r : Rect) (layers : List Layer) : Type 0 where
  pub each : (column row : ℕ) → is_in r (pos column) (pos row) ≡ true → (under other : Glyph)
      → cell_over layers column row under ≡ cell_over layers column row other

-- the open dialog of one state shows the same as that of another in each cell that the damage lacks
abbrev pub OpenAlike : Desc → List Rect → State → State → Type 0
OpenAlike d damage s t =
    (p : Picture)
    → AreAlike p damage (open_layers d s.overwriting s.dialog) (open_layers d t.overwriting t.dialog)
