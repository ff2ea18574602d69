-- What the laws of runs say of the dialogs of a state of a run.
use Rattle.std.proofs.Common.{◌≡◌, ℕ, IsTrue, Some, is_some, sym, ap, subst, ◌∙◌}
use Rattle.std.specs.Prelude.{slice_get}
use Rattle.tv_model.specs.declared.desc.Desc.{Desc}
use Rattle.tv_model.specs.declared.desc.Dialog.{Dialog}
use Rattle.tv_view.specs.Meaning.{Leaf}
use Rattle.tv_machine.specs.State.{Held, OpenDialog, State}
use Rattle.tv_machine.specs.Dialog.Modal.{leaf_at}
use Rattle.tv_machine.specs.Dialog.Sound.{IsSoundDialog}
use Rattle.tv_machine.specs.Session.Commands.{modal_of, saved_at}
use Rattle.tv_laws.specs.Fit.{IsFitModal}
use Rattle.tv_laws.specs.Runs.{IsFitState}
use Rattle.tv_laws.specs.Steps.{IsSafeSave}
use Rattle.tv_laws.proofs.MarkerLemmas.{one_marker}
use Rattle.tv_laws.proofs.WorkLemmas.{saved_safe, sound-at}
use Rattle.tv_dialogs.specs.Dialogs.{AreOfRun, IsOpenAmong, at_work}
use Rattle.tv_dialogs.specs.Kept.{IsReady}
use Rattle.tv_dialogs.specs.declared.dialogs.DialogsOf.{DialogsOf}
use Rattle.tv_dialogs.proofs.PlaceLemmas.{same-some}

-- ---- the open dialog of a fit state

module _ (d : Desc) (s : State) (o : OpenDialog) (is : s.dialog ≡ Some o) (fit : IsFitState d s) (dialog : Dialog) (there : slice_get d.dialogs o.place ≡ Some dialog) where
  pub open-fit : IsFitModal dialog (modal_of s o)
  open-fit =
      let x = fit.«open» o is in
      subst (λ y. IsFitModal y (modal_of s o)) (same-some x.dialog dialog (sym x.there ∙ there)) x.fit

  pub holds-leaf : (held : Held) → o.held ≡ Some held → IsTrue (is_some (leaf_at dialog held.id))
  holds-leaf held e = ap is_some (open-fit.held held e).there

-- ---- the dialogs of a run

module _ {V : Type 0} (look : V → Leaf) (d : Desc) (s : State) (dialogs : DialogsOf V) (run : AreOfRun look d s dialogs) where
  -- a dialog may open with what its last end saved
  pub save-safe : (place : ℕ) (dialog : Dialog) → slice_get d.dialogs place ≡ Some dialog → IsSafeSave dialog (saved_at s place)
  save-safe place dialog there = saved_safe d run.sound s run.fit.kept place dialog there

  pub sound-there : (place : ℕ) (dialog : Dialog) → slice_get d.dialogs place ≡ Some dialog → IsSoundDialog dialog
  sound-there place dialog there = sound-at d run.sound place dialog there

  module _ (o : OpenDialog) (is : s.dialog ≡ Some o) where
    abbrev among : IsOpenAmong look d s o dialogs.kept.items
    among = run.are.at o is

    pub sound-open : IsSoundDialog among.dialog
    sound-open = sound-at d run.sound o.place among.dialog among.there

    -- it may be handed an event
    pub open-ready : IsReady look among.dialog (at_work s o among.kept.dialog.log.items) among.kept.dialog
    open-ready = record {
      lawful = sound-open.lawful;
      going = among.stands.open;
      leaf = holds-leaf d s o is run.fit among.dialog among.there;
      focus = (open-fit d s o is run.fit among.dialog among.there).focus;
      markers = one_marker among.dialog (modal_of s o) sound-open (open-fit d s o is run.fit among.dialog among.there).standing;
      stands = among.stands;
    }
