-- How a run begins, and why it can't.
use Rattle.std.specs.Prelude.{◌≡◌, ℕ, [], List, Option, Some, None, position}
use Rattle.tv_window.specs.Desk.{AreFreshWindows, AreLawfulWindows}
use Rattle.tv_dialogs.specs.Dialogs.{AreDialogs}
use Rattle.tv_dialogs.specs.declared.dialogs.DialogsOf.{DialogsOf}
use Rattle.tv_machine.specs.Dialog.Sound.{HasSoundDialogs}
use Rattle.tv_machine.specs.Session.Start.{closed}
use Rattle.tv_menu.specs.Bar.{IsBarOf, open_of}
use Rattle.tv_menu.specs.Lawful.{IsLawfulScreen}
use Rattle.tv_menu.specs.Line.{IsStatusLineOf}
use Rattle.tv_model.specs.Description.Numbers.{natural}
use Rattle.tv_session.specs.declared.making.Parts.{Parts}
use Rattle.tv_view.specs.Meaning.{Leaf}
use Rattle.tv_model.specs.Description.Heads.{is_named}
use Rattle.tv_model.specs.declared.desc.Desc.{Desc}
use Rattle.tv_group.specs.declared.group.GroupOf.{GroupOf}
use Rattle.tv_window.specs.declared.window.WindowOf.{WindowOf}
use Rattle.tv_session.specs.Freshness.{IsFirstMismatch}
use Rattle.tv_session.specs.declared.fault.SessionFault.{SessionFault}
use Rattle.tv_session.specs.declared.fault.SessionFault.TheVariants.{NoMemory, ViewMismatch}

-- the place of the dialog that has a name, if a name is given
abbrev pub place_named : Desc → Option (List ℕ) → Option ℕ
place_named d None = None
place_named d (Some name) = position (is_named name) d.dialogs

-- the place of the dialog that is open at the start
abbrev pub start_place : Desc → Option ℕ
start_place d = place_named d d.start

-- why no session was made of these views: memory ran out, or this is the first that isn't as declared
abbrev pub RefusesViews : {V : Type 0} → (V → Leaf) → Desc → List (WindowOf V) → List (GroupOf V)
    → SessionFault → Type 0
RefusesViews look d windows bodies NoMemory = Unit {0}
RefusesViews look d windows bodies (ViewMismatch place) = IsFirstMismatch look d windows bodies (Some place)

-- what a session is made of before its start: each part is that of the description, and no line is logged yet
pub record CanStart {V : Type 0} (look : V → Leaf) (d : Desc) (parts : Parts) (windows : List (WindowOf V))
    (dialogs : DialogsOf V) : Type 0 where
  pub sound : HasSoundDialogs d
  pub lawful : AreLawfulWindows d.windows
  pub size : IsLawfulScreen d.width d.height
  pub windows_of : AreFreshWindows look d.windows windows
  pub dialogs_of : AreDialogs look d (closed d) dialogs
  pub bar : IsBarOf d parts.bar
  pub none_open : open_of parts.bar ≡ None
  pub line : IsStatusLineOf d parts.line
  pub width : parts.screen.width ≡ natural d.width
  pub height : parts.screen.height ≡ natural d.height
  pub log : parts.log.items ≡ []
