-- How a dialog can always be left, and that the mouse can always be let go.
use Rattle.std.specs.Prelude.{◌≡◌, false, None}
use Rattle.tv_cells.specs.declared.rect.Point.{Point}
use Rattle.tv_event.specs.Commands.{cm_cancel}
use Rattle.tv_event.specs.declared.event.Event.TheVariants as events
use Rattle.tv_event.specs.declared.event.Key.TheVariants as keys
use Rattle.tv_model.specs.declared.desc.Dialog.{Dialog}
use Rattle.tv_machine.specs.Dialog.Ending.{ended}
use Rattle.tv_machine.specs.Dialog.Focus.{keeps_focus, next_free, request, stops_of}
use Rattle.tv_machine.specs.Dialog.Modal.{Modal, leaf_at}
use Rattle.tv_machine.specs.Dialog.Step.{dialog_step}
use Rattle.tv_laws.specs.Fit.{IsFitModal}

-- Esc ends the dialog by `cancel`, whatever its inputs hold, while no leaf holds the mouse
abbrev pub EscCancels : Dialog → Type 0
EscCancels d = (m : Modal) → m.held ≡ None → dialog_step d (events.Key keys.Esc) m ≡ ended d cm_cancel m

-- after a mouse up no leaf holds the mouse
abbrev pub UpLetsGo : Dialog → Type 0
UpLetsGo d = (m : Modal) (p : Point) → (dialog_step d (events.Up p) m).held ≡ None

-- Tab asks for the focus of the next free control
abbrev pub TabAsksNext : Dialog → Type 0
TabAsksNext d =
    (m : Modal) → m.held ≡ None
    → dialog_step d (events.Key keys.Tab) m ≡ request d (next_free (stops_of d m.leaves) m.focus) m

-- Tab goes to the next free control, unless the focus is an input that it may leave only with a text of its
-- domain
abbrev pub TabGoesOn : Dialog → Type 0
TabGoesOn d =
    (m : Modal) → IsFitModal d m → m.held ≡ None → keeps_focus m (leaf_at d m.focus) ≡ false
    → (dialog_step d (events.Key keys.Tab) m).focus ≡ next_free (stops_of d m.leaves) m.focus
