-- What a user may want of a dialog, and which events reach it.
use Rattle.std.specs.Prelude.{◌≡◌, ℕ, List, true, Contains, slice_get, Some}
use Rattle.tv_event.specs.declared.event.Command.{Command}
use Rattle.tv_event.specs.declared.event.Event.{Event}
use Rattle.tv_model.specs.declared.node.Id.{Id}
use Rattle.tv_model.specs.declared.desc.Desc.{Desc}
use Rattle.tv_model.specs.declared.desc.Dialog.{Dialog}
use Rattle.tv_model.specs.declared.log.LogLine.TheVariants as lines
use Rattle.tv_machine.specs.State.{OpenDialog, State}
use Rattle.tv_machine.specs.Leaves.{PlacedNode}
use Rattle.tv_machine.specs.Dialog.Modal.{leaf_at}
use Rattle.tv_machine.specs.Dialog.Rules.{is_visible}
use Rattle.tv_laws.specs.Runs.{state_after}
use Rattle.tv_reach.specs.declared.goal.Goal.{Goal}
use Rattle.tv_reach.specs.declared.goal.Goal.TheVariants as goals

-- ---- goals in a state

-- the dialog at the place of the description is open
pub record IsOpenAt (d : Desc) (place : ℕ) (s : State) : Type 0 where
  pub dialog : Dialog
  pub there : slice_get d.dialogs place ≡ Some dialog
  pub «open» : OpenDialog
  pub is : s.dialog ≡ Some «open»
  pub here : «open».place ≡ place

-- its control of the id has the focus
pub record IsFocusedAt (d : Desc) (place : ℕ) (i : Id) (s : State) : Type 0 where
  pub at : IsOpenAt d place s
  pub focus : at.«open».focus ≡ i

-- its leaf of the id is visible
pub record IsShownAt (d : Desc) (place : ℕ) (i : Id) (s : State) : Type 0 where
  pub at : IsOpenAt d place s
  pub leaf : PlacedNode
  pub there : leaf_at at.dialog i ≡ Some leaf
  pub visible : is_visible at.dialog at.«open».leaves leaf ≡ true

-- the log has the line of its end by the command
pub record HasEndedAt (d : Desc) (place : ℕ) (c : Command) (s : State) : Type 0 where
  pub dialog : Dialog
  pub there : slice_get d.dialogs place ≡ Some dialog
  pub logged : Contains s.log (lines.End dialog.node.id c)

-- what is wanted of the dialog at the place is so
abbrev pub IsAt : Desc → ℕ → Goal → State → Type 0
IsAt d place goals.Opens s = IsOpenAt d place s
IsAt d place (goals.Ends c) s = HasEndedAt d place c s
IsAt d place (goals.Focuses i) s = IsFocusedAt d place i s
IsAt d place (goals.Shows i) s = IsShownAt d place i s

-- ---- goals of a run

-- it is so after these events
abbrev pub Reaches : Desc → ℕ → Goal → List Event → Type 0
Reaches d place goal events = IsAt d place goal (state_after d events)

-- no events reach it
abbrev pub IsNeverReached : Desc → ℕ → Goal → Type 0
IsNeverReached d place goal = (events : List Event) → Reaches d place goal events → ⊥
