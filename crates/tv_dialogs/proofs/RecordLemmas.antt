-- The record that a dialog opens with next: as it is read, and after another was given to it.
use Rattle.std.proofs.Common.{arith, ◌≡◌, ◌<◌, ◌≤◌, ◌==◌, ℕ, zero, suc, List, [], ◌∷◌, length, Some, None, refl, sym, ap, subst, ◌∙◌}
use Rattle.std.specs.Prelude.{option_map, slice_get, slice_set, unwrap_or}
use Rattle.std.proofs.lemmas.Bool.{eq-eqb, eqb-true, false≢true}
use Rattle.std.proofs.lemmas.List.{length-set}
use Rattle.std.proofs.lemmas.Option.{slice_get_past, slice_get_within}
use Rattle.tv_model.specs.Log.Record.{Entries}
use Rattle.tv_model.specs.declared.desc.Desc.{Desc}
use Rattle.tv_model.specs.declared.desc.Dialog.{Dialog}
use Rattle.tv_view.specs.Meaning.{Leaf}
use Rattle.tv_machine.specs.Session.Commands.{overwriting_at, saved_at}
use Rattle.tv_machine.specs.State.{OpenDialog, State}
use Rattle.tv_machine.proofs.ListLemmas.{bool_cases}
use Rattle.tv_dialog.specs.Standing.{Stands}
use Rattle.tv_dialogs.specs.Dialogs.{AreDialogs, IsOpenAmong, at_work}
use Rattle.tv_dialogs.specs.Kept.{IsKeptAs, first_values}
use Rattle.tv_dialogs.specs.Records.{next_record}
use Rattle.tv_laws.specs.Runs.{with_saved}
use Rattle.tv_dialogs.specs.declared.kept.Kept.{Kept}
use Rattle.tv_dialogs.specs.declared.dialogs.DialogsOf.{DialogsOf}
use Rattle.tv_dialogs.proofs.KeptLemmas.{written-commands, written-count, written-found, written-kept}
use Rattle.tv_dialogs.proofs.PlaceLemmas.{get-set-other, get-set-same, nothing-some, same-some, there-is}
use Rattle.tv_dialogs.proofs.SessionLemmas.{same-dialogs}

-- nothing is written past the end
set-past : {A : Type 0} (xs : List A) (i : ℕ) (v : A) → length xs ≤ i → slice_set xs i v ≡ xs
set-past [] i v past = refl
set-past (y ∷ xs) zero v past = absurd (omega (arith, past))
set-past (y ∷ xs) (suc i) v past = ap (λ ys. y ∷ ys) (set-past xs i v (omega (arith, past)))

-- where nothing is there, the list ends before
past-none : {A : Type 0} (xs : List A) (i : ℕ) → slice_get xs i ≡ None → length xs ≤ i
past-none [] i e = omega arith
past-none (y ∷ xs) zero e = absurd (nothing-some y (sym e))
past-none (y ∷ xs) (suc i) e = let r = past-none xs i e in omega (arith, r)

module _ {V : Type 0} (look : V → Leaf) (d : Desc) (s : State) (old : DialogsOf V) (are : AreDialogs look d s old) (place : ℕ) where
  -- no dialog is at the place
  module _ (nothing : slice_get old.kept.items place ≡ None) where
    none-declared : length d.dialogs ≤ place
    none-declared = subst (λ (n : ℕ). n ≤ place) are.count (past-none old.kept.items place nothing)

    pub none-next : None ≡ next_record d s place
    none-next = sym (ap (option_map (λ dialog. first_values dialog (saved_at s place))) (slice_get_past d.dialogs place none-declared))

    pub none-given : (entries : Entries) → AreDialogs look d (with_saved place entries s) old
    none-given entries =
        same-dialogs look d s (with_saved place entries s) old refl
        (sym (set-past s.saved place (Some entries) (subst (λ (n : ℕ). n ≤ place) (sym are.saved) none-declared))) refl are

  module _ (before : Kept V) (found : slice_get old.kept.items place ≡ Some before) where
    -- one is declared there
    is-declared : (dialog : Dialog) × (slice_get d.dialogs place ≡ Some dialog)
    is-declared =
        there-is d.dialogs place (subst (λ (n : ℕ). place < n) are.count (slice_get_within old.kept.items place before found))

    abbrev dialog : Dialog
    dialog = is-declared.0

    was : IsKeptAs look dialog (saved_at s place) (overwriting_at s place) before
    was = are.kept place dialog before is-declared.1 found

    pub some-next : Some before.values ≡ next_record d s place
    some-next =
        ap (λ values. Some values) was.values
        ∙ sym (ap (option_map (λ x. first_values x (saved_at s place))) is-declared.1)

    -- ---- another record is given to it

    module _ (entries : Entries) (new : DialogsOf V) (written : new.kept.items ≡ slice_set old.kept.items place (record before { values = entries }))
        (lent : new.commands ≡ old.commands) where
      abbrev after : Kept V
      after = record before { values = entries }

      abbrev given : State
      given = with_saved place entries s

      found-after : slice_get new.kept.items place ≡ Some after
      found-after = written-found look d s old new are place dialog is-declared.1 before after found written lent was.modal

      saved-there : place < length s.saved
      saved-there = subst (λ (n : ℕ). place < n) (sym are.saved) (slice_get_within d.dialogs place dialog is-declared.1)

      kept-so : IsKeptAs look dialog (saved_at given place) (overwriting_at given place) after
      kept-so = record {
        values = sym (ap (λ o. first_values dialog (unwrap_or o None)) (get-set-same s.saved place (Some entries) saved-there));
        modal = was.modal;
        overwrites = was.overwrites;
        rests = was.rests;
      }

      -- the open one is it, or another
      still-open : (o : OpenDialog) → s.dialog ≡ Some o → IsOpenAmong look d given o new.kept.items
      still-open o is =
          let x = are.at o is in
          bool_cases (o.place == place) (λ b. (o.place == place) ≡ b → IsOpenAmong look d given o new.kept.items)
          (λ here e.
          let at : o.place ≡ place = eqb-true o.place place e in
          let same : x.kept ≡ before = same-some x.kept before (sym x.found ∙ ap (slice_get old.kept.items) at ∙ found) in
          record {
            dialog = x.dialog;
            there = x.there;
            kept = after;
            found = ap (slice_get new.kept.items) at ∙ found-after;
            stands = subst (λ k. Stands look x.dialog o.leaves (at_work s o k.dialog.log.items) k.dialog) same x.stands;
            corner = ap (λ k. k.dialog.corner) (sym same) ∙ x.corner;
            sheet = ap (λ k. k.dialog.sheet) (sym same) ∙ x.sheet;
            near = x.near;
          })
          (λ other e.
          let apart : o.place ≡ place → ⊥ = λ h. false≢true (sym e ∙ eq-eqb o.place place h) in
          record {
            dialog = x.dialog;
            there = x.there;
            kept = x.kept;
            found = ap (λ xs. slice_get xs o.place) written ∙ get-set-other old.kept.items place o.place after apart ∙ x.found;
            stands = x.stands;
            corner = x.corner;
            sheet = x.sheet;
            near = x.near;
          })
          refl

      pub given-dialogs : new.open ≡ old.open → new.is_held ≡ old.is_held → AreDialogs look d given new
      given-dialogs opens held = record {
        count = written-count look d s old new are place dialog is-declared.1 before after found written lent was.modal;
        saved = length-set s.saved place (Some entries) ∙ are.saved;
        overwriting = are.overwriting;
        kept = written-kept look d s old new are place dialog is-declared.1 before after found written lent was.modal given kept-so
            (λ j apart. (ap (λ o. unwrap_or o None) (get-set-other s.saved place j (Some entries) apart), refl));
        place = opens ∙ are.place;
        held = held ∙ are.held;
        at = still-open;
        commands = written-commands look d s old new are place dialog is-declared.1 before after found written lent was.modal;
      }
