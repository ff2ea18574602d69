-- What a session needs to know of the machine's dialogs: what they leave as it was, what they don't look at, and commands.
use Rattle.std.proofs.Common.{◌≡◌, ℕ, Option, Some, None, refl, subst}
use Rattle.std.specs.Prelude.{slice_get}
use Rattle.tv_event.specs.declared.event.Event.{Event}
use Rattle.tv_model.specs.declared.desc.Desc.{Desc}
use Rattle.tv_model.specs.declared.desc.Dialog.{Dialog}
use Rattle.tv_view.specs.Meaning.{Leaf}
use Rattle.tv_machine.specs.State.{OpenDialog, State}
use Rattle.tv_machine.specs.Dialog.Modal.{Modal}
use Rattle.tv_machine.specs.Dialog.Step.{dialog_step}
use Rattle.tv_machine.specs.Session.Commands.{after_work, open_dialog, open_found, works}
use Rattle.tv_machine.specs.Session.Step.{event_from, to_dialog}
use Rattle.tv_dialogs.specs.Dialogs.{AreDialogs, IsAside}
use Rattle.tv_dialogs.specs.declared.dialogs.DialogsOf.{DialogsOf}

after_aside : (s : State) (o : OpenDialog) (m : Modal) (over : Option ℕ) → IsAside s (after_work s o m over)
after_aside s o m None = record { windows = refl; menu = refl; over = refl; frame = refl }
after_aside s o m (Some number) = record { windows = refl; menu = refl; over = refl; frame = refl }

works_aside : (s : State) (o : OpenDialog) (work : Dialog → Modal → Modal) (found : Option Dialog) → IsAside s (works s o work found)
works_aside s o work None = record { windows = refl; menu = refl; over = refl; frame = refl }
works_aside s o work (Some dialog) = after_aside s o (work dialog _) _

open_aside : (s : State) (place : ℕ) (found : Option Dialog) → IsAside s (open_found s place found)
open_aside s place None = record { windows = refl; menu = refl; over = refl; frame = refl }
open_aside s place (Some dialog) = record { windows = refl; menu = refl; over = refl; frame = refl }

-- an event of the open dialog leaves windows, the menu, whether the run is over, and a held frame
pub step-aside : (d : Desc) (o : OpenDialog) (e : Event) (s : State) → IsAside s (to_dialog d o e s)
step-aside d o e s = works_aside s o (λ dialog m. dialog_step dialog (event_from o.origin e) m) (slice_get d.dialogs o.place)

-- so does the opening of a dialog
pub open-aside : (d : Desc) (place : ℕ) (s : State) → IsAside s (open_dialog d place s)
open-aside d place s = open_aside s place (slice_get d.dialogs place)

-- the dialogs of a state are those of another with the same open dialog, records and inputs in which typing overwrites
pub same-dialogs : {V : Type 0} (look : V → Leaf) (d : Desc) (s t : State) (dialogs : DialogsOf V) → s.dialog ≡ t.dialog → s.saved ≡ t.saved
    → s.overwriting ≡ t.overwriting → AreDialogs look d s dialogs → AreDialogs look d t dialogs
same-dialogs look d s t dialogs dialog saved overwriting are =
    let one : State = record s { dialog = t.dialog } in
    let two : State = record one { saved = t.saved } in
    let all : AreDialogs look d (record s { dialog = t.dialog; saved = t.saved; overwriting = t.overwriting }) dialogs =
    subst (λ x. AreDialogs look d (record s { dialog = t.dialog; saved = t.saved; overwriting = x }) dialogs) overwriting
    (subst (λ x. AreDialogs look d (record s { dialog = t.dialog; saved = x }) dialogs) saved
    (subst (λ x. AreDialogs look d (record s { dialog = x }) dialogs) dialog are)) in
    record {
      count = all.count;
      saved = all.saved;
      overwriting = all.overwriting;
      kept = λ place x k there found. let is = all.kept place x k there found in record { values = is.values; modal = is.modal; overwrites = is.overwrites; rests = is.rests };
      place = all.place;
      held = all.held;
      at = λ o is. let x = all.at o is in record { dialog = x.dialog; there = x.there; kept = x.kept; found = x.found; stands = x.stands; corner = x.corner; sheet = x.sheet; near = x.near };
      commands = all.commands;
    }
