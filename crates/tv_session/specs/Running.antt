-- A run that stands as the flat machine's does.
use Rattle.std.specs.Prelude.{◌≡◌, Bool, false, List, [], Option, Some, None, option_map}
use Rattle.tv_cells.specs.Picture.{Picture}
use Rattle.tv_cells.specs.Repainting.{AreAlike}
use Rattle.tv_cells.specs.declared.rect.Point.{Point}
use Rattle.tv_cells.specs.declared.rect.Rect.{Rect}
use Rattle.tv_machine.specs.Screen.Layers.{open_layers, stack_layers}
use Rattle.tv_view.specs.Meaning.{Leaf}
use Rattle.tv_model.specs.declared.desc.Desc.{Desc}
use Rattle.tv_model.specs.declared.node.Id.{Id}
use Rattle.tv_machine.specs.Session.Dragging.{logged_moved}
use Rattle.tv_machine.specs.State.{HeldFrame, State}
use Rattle.tv_machine.specs.Dialog.Sound.{HasSoundDialogs}
use Rattle.tv_laws.specs.Runs.{IsFitState}
use Rattle.tv_menu.specs.Bar.{IsBarOf, open_of}
use Rattle.tv_menu.specs.Lawful.{IsLawfulScreen}
use Rattle.tv_menu.specs.Line.{IsStatusLineOf}
use Rattle.tv_menu.specs.declared.bars.StatusLine.{StatusLine}
use Rattle.tv_model.specs.Description.Numbers.{natural}
use Rattle.tv_window.specs.Desk.{IsDesk}
use Rattle.tv_dialogs.specs.Dialogs.{AreDialogs}
use Rattle.tv_session.specs.declared.dragging.HeldFrame.{HeldFrame as Held}
use Rattle.tv_session.specs.declared.run.RunOf.{RunOf}

-- a frame that the mouse holds, as the machine has it
abbrev pub seen_frame : Held → HeldFrame
seen_frame frame = record { off = frame.off; from = frame.from }

-- its windows, dialogs and menus are the state's, and so are the frame that the mouse holds and the lines of
-- its last event
pub record IsRun {V : Type 0} (look : V → Leaf) (d : Desc) (s : State) (run : RunOf V) : Type 0 where
  pub desk : IsDesk look d s.windows run.desk
  pub dialogs : AreDialogs look d s run.dialogs
  pub bar : IsBarOf d run.bar
  pub menu : s.menu ≡ open_of run.bar
  pub frame : s.frame ≡ option_map seen_frame run.frame
  pub over : run.is_over ≡ s.is_over
  pub log : run.log.items ≡ s.log

-- it isn't over, has logged nothing yet, and is as every event leaves a run of sound dialogs; the mouse holds
-- this frame, or none
pub record IsAwakeWith {V : Type 0} (look : V → Leaf) (d : Desc) (frame : Option HeldFrame) (s : State)
    (run : RunOf V) : Type 0 where
  pub stands : IsRun look d s run
  pub held : s.frame ≡ frame
  pub fit : IsFitState d s
  pub sound : HasSoundDialogs d
  pub size : IsLawfulScreen d.width d.height
  pub over : s.is_over ≡ false
  pub empty : s.log ≡ []

-- the same while the mouse holds no frame
abbrev pub IsAwake : {V : Type 0} → (V → Leaf) → Desc → State → RunOf V → Type 0
IsAwake look d s run = IsAwakeWith look d None s run

-- and while it holds this one
abbrev pub IsDragged : {V : Type 0} → (V → Leaf) → Desc → Held → State → RunOf V → Type 0
IsDragged look d frame s run = IsAwakeWith look d (Some (seen_frame frame)) s run

-- a picture of the screen's size may be painted by a run that stands as the state
pub record CanPaint {V : Type 0} (look : V → Leaf) (d : Desc) (s : State) (run : RunOf V) (line : StatusLine)
    (p : Picture) : Type 0 where
  pub stands : IsRun look d s run
  pub sound : HasSoundDialogs d
  pub size : IsLawfulScreen d.width d.height
  pub is_line : IsStatusLineOf d line
  pub width : p.width ≡ natural d.width
  pub height : p.height ≡ natural d.height

-- with the line that the frame of an id has come there, if one has
abbrev pub with_moved_line : Option Id → Point → State → State
with_moved_line None corner s = s
with_moved_line (Some i) corner s = logged_moved i corner s

-- ---- damage

-- the open dialog and the windows of two states show the same but in the damage
pub record ShowAlikeOff (d : Desc) (since s : State) (damage : List Rect) : Type 0 where
  pub dialog : (p : Picture)
      → AreAlike p damage (open_layers d since.overwriting since.dialog)
      (open_layers d s.overwriting s.dialog)
  pub windows : (p : Picture) (is_active : Bool)
      → AreAlike p damage (stack_layers d is_active since.windows) (stack_layers d is_active s.windows)

-- the same of a run that stands as the second state, by the damage that it keeps
abbrev pub IsRunSince : {V : Type 0} → (V → Leaf) → Desc → State → State → RunOf V → Type 0
IsRunSince look d since s run = IsRun look d s run × ShowAlikeOff d since s run.damage

abbrev pub IsAwakeSince : {V : Type 0} → (V → Leaf) → Desc → State → State → RunOf V → Type 0
IsAwakeSince look d since s run = IsAwake look d s run × ShowAlikeOff d since s run.damage
