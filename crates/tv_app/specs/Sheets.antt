-- What is open, and sheets, by the names of windows and dialogs.
use Rattle.std.specs.Prelude.{◌≡◌, ℕ, ◌-ℤ◌, Bool, List, find, max, min, Option, Some, None, option_map}
use Rattle.std.specs.Option.{option_and_then, option_or}
use Rattle.tv_cells.specs.Picture.{Picture}
use Rattle.tv_cells.specs.declared.rect.Rect.{Rect}
use Rattle.tv_machine.specs.Run.{Session, with_sheet}
use Rattle.tv_machine.specs.Screen.Bars.{without_edge}
use Rattle.tv_model.specs.declared.desc.Desc.{Desc}
use Rattle.tv_model.specs.declared.node.Id.{Id}
use Rattle.tv_model.specs.Description.Numbers.{natural}
use Rattle.tv_session.specs.Session.{bounds_of, front_of}
use Rattle.tv_app.specs.Names.{are_one, dialog_id, is_called}
use Rattle.tv_app.specs.Running.{Runs}
use Rattle.tv_app.specs.declared.app.App.{App}

-- ---- names

-- the id of the first window of the name
abbrev pub window_id : Desc → List ℕ → Option Id
window_id d name = option_map (λ window. window.node.id) (find (λ window. is_called name window.node) d.windows)

-- the id of the first window of the name, or of the first dialog
abbrev pub named_id : Desc → List ℕ → Option Id
named_id d name = option_or (window_id d name) (dialog_id d name)

-- ---- what is open

-- the interior on the screen of the open window or dialog of the name
abbrev pub place_named : Session → List ℕ → Option Rect
place_named s name = option_map without_edge (option_and_then (bounds_of s) (named_id s.desc name))

-- whether the window or dialog of the name is in front
abbrev pub is_front_named : Session → List ℕ → Bool
is_front_named s name = are_one (front_of s) (named_id s.desc name)

-- ---- sheets

-- as large as an interior, where that is as large as a screen may be
pub record IsSheetFor (r : Rect) (sheet : Picture) : Type 0 where
  pub width : sheet.width ≡ max 20 (min (natural (r.b.x -ℤ r.a.x)) 132)
  pub height : sheet.height ≡ max 10 (min (natural (r.b.y -ℤ r.a.y)) 60)

-- the window or dialog of the name has the id, and is open
pub record IsOpenNamed (s : Session) (name : List ℕ) (id : Id) : Type 0 where
  pub named : named_id s.desc name ≡ Some id
  pub bounds : Rect
  pub «open» : bounds_of s id ≡ Some bounds

-- the application stands for the run in which the sheet was laid in the open window or dialog of the name
pub record IsLaidFrom (s : Session) (name : List ℕ) (sheet : Picture) (after : App) : Type 0 where
  pub id : Id
  pub is : IsOpenNamed s name id
  pub runs : Runs after (with_sheet s id (Some sheet))
