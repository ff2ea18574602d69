-- What the screen shows after an event as before it.
use Rattle.std.specs.Prelude.{◌≡◌, List, [], ◌∷◌, ◌++◌, is_none, is_some}
use Rattle.tv_cells.specs.Layers.{Layer}
use Rattle.tv_cells.specs.Picture.{Picture}
use Rattle.tv_cells.specs.Repainting.{AreAlike}
use Rattle.tv_cells.specs.declared.rect.Rect.{Rect}
use Rattle.tv_machine.specs.Screen.Bodies.{background_layer}
use Rattle.tv_machine.specs.Screen.Layers.{layers_of, open_layers, stack_layers}
use Rattle.tv_machine.specs.State.{State}
use Rattle.tv_menu.specs.Damage.{menu_seen}
use Rattle.tv_menu.specs.Line.{AreEnabled}
use Rattle.tv_model.specs.declared.desc.Desc.{Desc}
use Rattle.tv_session.specs.declared.before.Before.{Before}

-- the state that was noted before an event
pub record IsNoteOf (d : Desc) (s : State) (before : Before) : Type 0 where
  pub menu : menu_seen before.menu ≡ s.menu
  pub is_open : before.is_open ≡ is_some s.dialog
  pub commands : AreEnabled d s before.commands

-- what stands on the desktop from the top: the open dialog, the windows and the background
abbrev pub standing_layers : Desc → State → List Layer
standing_layers d s =
    open_layers d s.overwriting s.dialog
    ++ (stack_layers d (is_none s.dialog) s.windows ++ background_layer d ∷ [])

-- the screen shows two states alike but in the damage
abbrev pub AreShownAlike : Desc → State → State → List Rect → Type 0
AreShownAlike d s t damage = (p : Picture) → AreAlike p damage (layers_of d s) (layers_of d t)
