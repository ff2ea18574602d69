-- How the dialog that is open in a fit state can be left.
use Rattle.std.specs.Prelude.{◌≡◌, [], ◌∷◌, slice_get, Some, None}
use Rattle.tv_cells.specs.declared.rect.Point.{Point}
use Rattle.tv_event.specs.Commands.{cm_cancel}
use Rattle.tv_event.specs.declared.event.Event.{Event}
use Rattle.tv_event.specs.declared.event.Event.TheVariants as events
use Rattle.tv_event.specs.declared.event.Key.TheVariants as keys
use Rattle.tv_model.specs.declared.desc.Desc.{Desc}
use Rattle.tv_model.specs.declared.desc.Dialog.{Dialog}
use Rattle.tv_machine.specs.State.{OpenDialog, State}
use Rattle.tv_machine.specs.Dialog.Ending.{fields_of}
use Rattle.tv_machine.specs.Output.{states}
use Rattle.tv_machine.specs.Session.Step.{step}
use Rattle.tv_laws.specs.Records.{end_lines}
use Rattle.tv_laws.specs.Runs.{IsFitState}

-- the key Esc
abbrev pub escape : Event
escape = events.Key keys.Esc

-- the open dialog was cancelled: it isn't open any longer, its end and its fields are logged, and what was
-- saved stays as it was
pub record IsCancelled (d : Desc) (s : State) (o : OpenDialog) (after : State) : Type 0 where
  pub dialog : Dialog
  pub there : slice_get d.dialogs o.place ≡ Some dialog
  pub closed : after.dialog ≡ None
  pub written : after.log ≡ end_lines dialog cm_cancel (fields_of o.leaves)
  pub saved : after.saved ≡ s.saved

-- while the mouse holds neither a leaf of the open dialog nor a frame, Esc cancels it
abbrev pub EscCancelsOpen : Desc → Type 0
EscCancelsOpen d =
    (s : State) (o : OpenDialog) → IsFitState d s → s.dialog ≡ Some o → o.held ≡ None → s.frame ≡ None
    → IsCancelled d s o (step d s escape)

-- no leaf holds the mouse after a mouse up
abbrev pub UpFreesMouse : Desc → Type 0
UpFreesMouse d =
    (s : State) (p : Point) (o : OpenDialog) → IsFitState d s → (step d s (events.Up p)).dialog ≡ Some o
    → o.held ≡ None

-- nor does the mouse hold a frame
abbrev pub UpFreesFrame : Desc → Type 0
UpFreesFrame d = (s : State) (p : Point) → IsFitState d s → (step d s (events.Up p)).frame ≡ None

-- no dialog is open after a mouse up and Esc
abbrev pub UpEscLeaves : Desc → Type 0
UpEscLeaves d =
    (s : State) (p : Point) → IsFitState d s
    → (states (step d) s (events.Up p ∷ escape ∷ [])).dialog ≡ None

-- and one that the mouse up leaves open is cancelled
abbrev pub UpEscCancels : Desc → Type 0
UpEscCancels d =
    (s : State) (p : Point) (o : OpenDialog) → IsFitState d s → (step d s (events.Up p)).dialog ≡ Some o
    → IsCancelled d (step d s (events.Up p)) o (states (step d) s (events.Up p ∷ escape ∷ []))
