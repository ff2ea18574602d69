-- The dialogs of a run after a sheet was laid in the open one: it stands with it, and all else is as it was.
use Rattle.std.proofs.Common.{◌≡◌, ◌∷◌, ◌++◌, [], List, Option, Some, is_some, option_map, refl, sym, ap, subst, ◌∙◌}
use Rattle.std.specs.Prelude.{slice_get, slice_set}
use Rattle.tv_cells.specs.Damage.{HasAll}
use Rattle.tv_cells.specs.Layers.{Shadow, cell_over}
use Rattle.tv_cells.specs.Picture.{Picture}
use Rattle.tv_cells.specs.declared.rect.Rect.{Rect}
use Rattle.tv_model.specs.declared.desc.Desc.{Desc}
use Rattle.tv_machine.specs.Dialog.Sound.{HasSoundDialogs}
use Rattle.tv_machine.specs.State.{OpenDialog, State}
use Rattle.tv_machine.specs.Session.Commands.{modal_of}
use Rattle.tv_machine.specs.Session.Laid.{laid_in_dialog}
use Rattle.tv_machine.specs.Session.Step.{dialog_with_hold}
use Rattle.tv_group.specs.Shown.{desktop_canvas}
use Rattle.tv_view.specs.Meaning.{Leaf}
use Rattle.tv_dialog.specs.Bounds.{dialog_bounds}
use Rattle.tv_dialog.specs.Drawn.{drawn_dialog}
use Rattle.tv_dialog.specs.declared.dialog.DialogOf.{DialogOf}
use Rattle.tv_dialog.proofs.DamageLemmas.{laid-drawn}
use Rattle.tv_dialog.proofs.StandsLemmas.{some-kept}
use Rattle.tv_dialogs.specs.Damage.{IsLentOpen, OpenAlike}
use Rattle.tv_dialogs.specs.Dialogs.{AreDialogs, IsOpenAmong, at_work}
use Rattle.tv_dialogs.specs.declared.kept.Kept.{Kept}
use Rattle.tv_dialogs.specs.declared.dialogs.DialogsOf.{DialogsOf}
use Rattle.tv_dialogs.proofs.CornerLemmas.{rests-at, stands-at}
use Rattle.tv_dialogs.proofs.DamageLemmas.{block-alike, is-lent, lent_open, open-shows}
use Rattle.tv_dialogs.proofs.KeptLemmas.{written-commands, written-count, written-found, written-kept}
use Rattle.tv_dialogs.proofs.PlaceLemmas.{same-some}

-- what is kept of a dialog with another sheet
abbrev pub laid_kept : {V : Type 0} → Kept V → Option Picture → Kept V
laid_kept kept sheet = record kept { dialog = record kept.dialog { sheet = sheet } }

module _ {V : Type 0} (look : V → Leaf) (d : Desc) (s : State) (old new : DialogsOf V) (are : AreDialogs look d s old)
    (o : OpenDialog) (is : s.dialog ≡ Some o) (sheet : Option Picture) where
  abbrev among : IsOpenAmong look d s o old.kept.items
  among = are.at o is

  abbrev after : Kept V
  after = laid_kept among.kept sheet

  abbrev laid_one : OpenDialog
  laid_one = record o { sheet = sheet }

  module _ (written : new.kept.items ≡ slice_set old.kept.items o.place after) (lent : new.commands ≡ old.commands) where
    pub laid-dialogs : new.open ≡ old.open → new.is_held ≡ old.is_held → AreDialogs look d (laid_in_dialog o sheet s) new
    laid-dialogs opens held =
        let t : State = laid_in_dialog o sheet s in
        let m = modal_of s o in
        let was = are.kept o.place among.dialog among.kept among.there among.found in
        record {
          count = written-count look d s old new are o.place among.dialog among.there among.kept after among.found written lent m;
          saved = are.saved;
          overwriting = are.overwriting;
          kept = written-kept look d s old new are o.place among.dialog among.there among.kept after among.found written lent m t
              (record {
                values = was.values;
                modal = was.modal;
                overwrites = was.overwrites;
                rests = rests-at look among.dialog was.modal among.kept.dialog among.kept.dialog.corner sheet was.rests;
              })
              (λ j apart. (refl, refl));
          place = opens ∙ are.place ∙ ap (λ x. option_map (λ y. y.place) x) is;
          held = held ∙ are.held ∙ ap (λ x. is_some (dialog_with_hold x)) is ∙ some-kept (is_some o.held) o ∙ sym (some-kept (is_some o.held) laid_one);
          at = λ q e. subst (λ x. IsOpenAmong look d t x new.kept.items) (same-some laid_one q e)
              (record {
                dialog = among.dialog;
                there = among.there;
                kept = after;
                found = written-found look d s old new are o.place among.dialog among.there among.kept after among.found written lent m;
                stands = stands-at look among.dialog (at_work s o among.kept.dialog.log.items) among.kept.dialog among.kept.dialog.corner sheet o.leaves among.stands;
                corner = among.corner;
                sheet = refl;
                near = among.near;
              });
          commands = written-commands look d s old new are o.place among.dialog among.there among.kept after among.found written lent m;
        }

  -- it shows the same off its rectangle
  module _ (sound : HasSoundDialogs d) (will : AreDialogs look d (laid_in_dialog o sheet s) new) (damage : List Rect) where
    pub laid-alike : slice_get new.kept.items o.place ≡ Some after → HasAll (dialog_bounds among.kept.dialog) damage → OpenAlike d damage s (laid_in_dialog o sheet s)
    laid-alike found all p =
        let x = will.at laid_one refl in
        let same : after ≡ x.kept = same-some after x.kept (sym found ∙ x.found) in
        let declared = same-some among.dialog x.dialog (sym among.there ∙ x.there) in
        let env = lent_open among.dialog in
        let shown = open-shows look d sound s old are o is env (is-lent among.dialog) in
        let later = open-shows look d sound (laid_in_dialog o sheet s) new will laid_one refl env (subst (λ y. IsLentOpen y env) declared (is-lent among.dialog)) in
        record {
          each = λ column row on off under.
              sym (shown.each column row under)
              ∙ block-alike look d env damage column row off under among.kept.dialog after.dialog refl (laid-drawn look env among.kept.dialog sheet damage all)
              ∙ ap (λ (k : Kept V). cell_over (drawn_dialog look env (desktop_canvas d) k.dialog ++ Shadow (desktop_canvas d) (dialog_bounds k.dialog) ∷ []) column row under) same
              ∙ later.each column row under;
        }
