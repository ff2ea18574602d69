-- A dialog that opens with its record opens as the machine's does.
use Rattle.std.proofs.Common.{◌≡◌, ◌<◌, length, ◌++◌, ◌∷◌, [], ℕ, map, Some, None, false, is_some, refl, sym, ap, subst, ◌∙◌, append_assoc}
use Rattle.std.specs.Prelude.{slice_get, slice_index_or, slice_set}
use Rattle.std.proofs.lemmas.Option.{slice_get_read, slice_get_within}
use Rattle.tv_model.specs.declared.desc.Desc.{Desc}
use Rattle.tv_model.specs.declared.desc.Dialog.{Dialog}
use Rattle.tv_model.specs.declared.log.LogLine.TheVariants as lines
use Rattle.tv_view.specs.Meaning.{Leaf}
use Rattle.tv_model.specs.Description.Rectangles.{corner_of}
use Rattle.tv_machine.specs.State.{State}
use Rattle.tv_machine.specs.Safe.{field_ids}
use Rattle.tv_machine.specs.Dialog.Lawful.{IsLawfulDialog}
use Rattle.tv_machine.specs.Dialog.Modal.{Modal}
use Rattle.tv_machine.specs.Dialog.Opening.{first_focus, opened_dialog as opens, opened_leaves, unfocused}
use Rattle.tv_machine.proofs.RefocusLemmas.{held-moved}
use Rattle.tv_machine.specs.Session.Commands.{open_dialog, open_found, opened_at, overwriting_at, saved_at}
use Rattle.tv_group.specs.Calls.{FitsAll}
use Rattle.tv_group.specs.Opened.{opened}
use Rattle.tv_dialog.specs.Fields.{in_field_order}
use Rattle.tv_dialog.specs.Resting.{Rests}
use Rattle.tv_dialog.specs.Standing.{Stands}
use Rattle.tv_dialog.proofs.FieldOrderLemmas.{ordered-itself}
use Rattle.tv_dialog.proofs.StandsLemmas.{ended-moved}
use Rattle.tv_dialogs.specs.Dialogs.{AreDialogs, AreOfRun, MayOpen, kept_at, lines_by, log_of_last}
use Rattle.tv_dialogs.specs.Kept.{IsKeptAs, first_values}
use Rattle.tv_dialogs.specs.declared.kept.Kept.{Kept}
use Rattle.tv_dialogs.specs.declared.dialogs.DialogsOf.{DialogsOf}
use Rattle.tv_dialogs.proofs.KeptLemmas.{stays-open}
use Rattle.tv_dialogs.proofs.PlaceLemmas.{get-set-same}
use Rattle.tv_dialogs.proofs.RunLemmas.{save-safe, sound-there}
use Rattle.tv_dialogs.proofs.CornerLemmas.{lawful-corner}
use Rattle.tv_dialogs.proofs.ValueLemmas.{first-fields, first-fits, first-opened}

-- what is read at the place is kept there
pub kept-found : {V : Type 0} (look : V → Leaf) (d : Desc) (place : ℕ) (old : DialogsOf V) → MayOpen look d place old → (kept : Kept V)
    → kept ≡ slice_index_or old.kept.items place kept → slice_get old.kept.items place ≡ Some kept
kept-found look d place old may kept reads =
    let less : place < length old.kept.items = subst (λ (n : ℕ). place < n) (sym may.run.are.count) may.there in
    slice_get_read old.kept.items (length old.kept.items) place kept refl less reads

module _ {V : Type 0} (look : V → Leaf) (d : Desc) (s : State) (old : DialogsOf V) (run : AreOfRun look d s old)
    (place : ℕ) (dialog : Dialog) (there : slice_get d.dialogs place ≡ Some dialog)
    (before : Kept V) (found : slice_get old.kept.items place ≡ Some before) where
  is_kept : IsKeptAs look dialog (saved_at s place) (overwriting_at s place) before
  is_kept = run.are.kept place dialog before there found

  -- its record fits it
  pub open-fits : FitsAll before.values (opened look before.dialog.body)
  open-fits =
      first-fits dialog (sound-there look d s old run place dialog there) look (saved_at s place) (overwriting_at s place) before
      (save-safe look d s old run place dialog there) is_kept

  open_fields : map (λ entry. entry.id) before.values ≡ field_ids dialog
  open_fields =
      ap (λ entries. map (λ entry. entry.id) entries) is_kept.values
      ∙ first-fields dialog (sound-there look d s old run place dialog there) (saved_at s place) (save-safe look d s old run place dialog there)

  -- the machine's dialog as it opens
  abbrev opening : Modal
  opening = opens dialog (saved_at s place) (overwriting_at s place)

  state_is : opened_at s place dialog opening ≡ open_dialog d place s
  state_is = ap (open_found s place) (sym there)

  module _ (new : DialogsOf V) (after : Kept V) (written : new.kept.items ≡ slice_set old.kept.items place after)
      (reopened : (x : Dialog) (m : Modal) → IsLawfulDialog x → Rests look x m before.dialog
      → Stands look x (opens x (Some (in_field_order x before.values)) m.overwriting).leaves
      (opens x (Some (in_field_order x before.values)) m.overwriting) after.dialog) where
    opened_stands : Stands look dialog opening.leaves opening after.dialog
    opened_stands =
        let sound = sound-there look d s old run place dialog there in
        let same : opens dialog (Some (in_field_order dialog before.values)) is_kept.modal.overwriting ≡ opening =
        ap (λ entries. opens dialog (Some entries) is_kept.modal.overwriting)
        (ordered-itself dialog sound.lawful before.values open_fields ∙ is_kept.values)
        ∙ ap (opens dialog (Some (first_values dialog (saved_at s place)))) is_kept.overwrites
        ∙ first-opened dialog sound (saved_at s place) (overwriting_at s place) in
        subst (λ n. Stands look dialog n.leaves n after.dialog) same (reopened dialog is_kept.modal sound.lawful is_kept.rests)

    pub opened-log : new.last ≡ Some place → (open_dialog d place s).log ≡ s.log ++ lines.Open dialog.node.id ∷ log_of_last new
    opened-log last =
        let here : kept_at new new.last ≡ Some after =
        ap (kept_at new) last ∙ ap (λ xs. slice_get xs place) written
        ∙ get-set-same old.kept.items place after (slice_get_within old.kept.items place before found) in
        sym (ap (λ t. t.log) state_is) ∙ append_assoc s.log (lines.Open dialog.node.id ∷ []) opening.log
        ∙ ap (λ ls. s.log ++ lines.Open dialog.node.id ∷ ls) (sym opened_stands.log ∙ sym (ap lines_by here))

    pub opened-dialogs : new.commands ≡ old.commands → new.open ≡ Some place → new.is_held ≡ false → after.values ≡ before.values → after.dialog.corner ≡ corner_of dialog.node → after.dialog.sheet ≡ None
        → AreDialogs look d (open_dialog d place s) new
    opened-dialogs lent opens_at held values corner bare =
        let going : opening.ended ≡ None = ended-moved dialog (unfocused dialog (saved_at s place) (overwriting_at s place)) (first_focus dialog (opened_leaves dialog (saved_at s place))) in
        let loose : opening.held ≡ None = held-moved dialog (sound-there look d s old run place dialog there).lawful (unfocused dialog (saved_at s place) (overwriting_at s place)) (first_focus dialog (opened_leaves dialog (saved_at s place))) in
        subst (λ t. AreDialogs look d t new) state_is
        (stays-open look d s old new run.are place dialog there before after found written lent opening
        (corner_of dialog.node) None ((s.log ++ lines.Open dialog.node.id ∷ []) ++ opening.log) corner bare (lawful-corner dialog (sound-there look d s old run place dialog there).lawful) going opens_at (held ∙ ap is_some (sym loose)) values
        (subst (λ ls. Stands look dialog opening.leaves (record opening { log = ls }) after.dialog) (sym opened_stands.log) opened_stands))
