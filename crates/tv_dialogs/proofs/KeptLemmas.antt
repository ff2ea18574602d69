-- The dialogs of a run after one of them has worked: it stands, or it has ended; the others are kept as they were.
use Rattle.std.proofs.Common.{◌≡◌, ◌<◌, ◌==◌, ℕ, true, false, if◌then◌else◌, List, [], Option, Some, None, is_some, length, refl, sym, ap, subst, ◌∙◌}
use Rattle.std.specs.Prelude.{slice_get, slice_index_or, slice_set, unwrap_or}
use Rattle.std.proofs.lemmas.Bool.{eq-eqb, eqb-true, false≢true}
use Rattle.std.proofs.lemmas.List.{length-set}
use Rattle.std.proofs.lemmas.Option.{slice_get_within}
use Rattle.tv_cells.specs.Picture.{Picture}
use Rattle.tv_cells.specs.declared.rect.Point.{Point}
use Rattle.tv_model.specs.declared.node.Id.{Id}
use Rattle.tv_model.specs.declared.desc.Desc.{Desc}
use Rattle.tv_model.specs.declared.desc.Dialog.{Dialog}
use Rattle.tv_model.specs.declared.log.LogLine.{LogLine}
use Rattle.tv_view.specs.Meaning.{Leaf}
use Rattle.tv_faces.specs.Corners.{IsCorner}
use Rattle.tv_machine.specs.State.{OpenDialog, State}
use Rattle.tv_machine.specs.Dialog.Ending.{fields_of}
use Rattle.tv_machine.specs.Dialog.Modal.{Modal}
use Rattle.tv_machine.specs.Session.Commands.{overwriting_at, saved_at, saved_by}
use Rattle.tv_machine.proofs.ListLemmas.{bool_cases}
use Rattle.tv_dialog.specs.Standing.{Stands}
use Rattle.tv_dialog.proofs.ReopenLemmas.{stands-rests}
use Rattle.tv_dialogs.specs.Dialogs.{AreDialogs, IsOpenAmong}
use Rattle.tv_dialogs.specs.Kept.{IsKeptAs, first_values}
use Rattle.tv_dialog.proofs.StandsLemmas.{some-kept}
use Rattle.tv_dialogs.specs.declared.kept.Kept.{Kept}
use Rattle.tv_dialogs.specs.declared.dialogs.DialogsOf.{DialogsOf}
use Rattle.tv_dialogs.proofs.PlaceLemmas.{get-set-other, get-set-same, nothing-some, same-some}

-- the open dialog after its work
abbrev pub worked_dialog : ℕ → Point → Option Picture → Modal → OpenDialog
worked_dialog place origin sheet m = record { place = place; origin = origin; sheet = sheet; leaves = m.leaves; focus = m.focus; held = m.held }

-- the state where it stands
abbrev pub standing_state : State → ℕ → Point → Option Picture → Modal → List LogLine → State
standing_state s place origin sheet m log = record s {
  dialog = Some (worked_dialog place origin sheet m);
  overwriting = slice_set s.overwriting place m.overwriting;
  log = log;
}

-- the state where it has ended
abbrev pub ended_state : State → ℕ → ℕ → Modal → List LogLine → State
ended_state s place number m log = record s {
  dialog = None;
  saved = saved_by place number m s.saved;
  overwriting = slice_set s.overwriting place m.overwriting;
  log = log;
}

-- a dialog that goes on is at work again
again : (m : Modal) (overwriting : List Id) (log : List LogLine) → overwriting ≡ m.overwriting → m.ended ≡ None
    → record { leaves = m.leaves; focus = m.focus; held = m.held; overwriting = overwriting; log = log; ended = None } ≡ record m { log = log }
again m overwriting log same going =
    let over : List Id → Modal = λ ids. record { leaves = m.leaves; focus = m.focus; held = m.held; overwriting = ids; log = log; ended = None } in
    let ended : Option ℕ → Modal = λ o. record { leaves = m.leaves; focus = m.focus; held = m.held; overwriting = m.overwriting; log = log; ended = o } in
    ap over same ∙ ap ended (sym going)

module _ {V : Type 0} (look : V → Leaf) (d : Desc) (s : State) (old new : DialogsOf V) (are : AreDialogs look d s old)
    (place : ℕ) (dialog : Dialog) (there : slice_get d.dialogs place ≡ Some dialog)
    (before after : Kept V) (found : slice_get old.kept.items place ≡ Some before)
    (written : new.kept.items ≡ slice_set old.kept.items place after) (lent : new.commands ≡ old.commands) (m : Modal) where
  pub written-found : slice_get new.kept.items place ≡ Some after
  written-found =
      ap (λ xs. slice_get xs place) written ∙ get-set-same old.kept.items place after (slice_get_within old.kept.items place before found)

  others_found : (j : ℕ) → (j ≡ place → ⊥) → slice_get new.kept.items j ≡ slice_get old.kept.items j
  others_found j apart = ap (λ xs. slice_get xs j) written ∙ get-set-other old.kept.items place j after apart

  pub written-count : length new.kept.items ≡ length d.dialogs
  written-count = ap length written ∙ length-set old.kept.items place after ∙ are.count

  pub written-commands : (number : ℕ) → number < 256 → slice_index_or new.commands number false ≡ true
  written-commands number less = ap (λ set. slice_index_or set number false) lent ∙ are.commands number less

  within_overwriting : place < length s.overwriting
  within_overwriting = subst (λ (n : ℕ). place < n) (sym are.overwriting) (slice_get_within d.dialogs place dialog there)

  within_saved : place < length s.saved
  within_saved = subst (λ (n : ℕ). place < n) (sym are.saved) (slice_get_within d.dialogs place dialog there)

  overwriting_here : unwrap_or (slice_get (slice_set s.overwriting place m.overwriting) place) [] ≡ m.overwriting
  overwriting_here = ap (λ o. unwrap_or o []) (get-set-same s.overwriting place m.overwriting within_overwriting)

  overwriting_other : (j : ℕ) → (j ≡ place → ⊥) → unwrap_or (slice_get (slice_set s.overwriting place m.overwriting) j) [] ≡ overwriting_at s j
  overwriting_other j apart = ap (λ o. unwrap_or o []) (get-set-other s.overwriting place j m.overwriting apart)

  -- all are kept where the one is, and nothing else was told
  pub written-kept : (t : State) → IsKeptAs look dialog (saved_at t place) (overwriting_at t place) after
      → ((j : ℕ) → (j ≡ place → ⊥) → (saved_at t j ≡ saved_at s j) × (overwriting_at t j ≡ overwriting_at s j))
      → (j : ℕ) (x : Dialog) (y : Kept V) → slice_get d.dialogs j ≡ Some x → slice_get new.kept.items j ≡ Some y
      → IsKeptAs look x (saved_at t j) (overwriting_at t j) y
  written-kept t here others j x y e f =
      bool_cases (j == place) (λ b. (j == place) ≡ b → IsKeptAs look x (saved_at t j) (overwriting_at t j) y)
      (λ is g.
      let at : place ≡ j = sym (eqb-true j place g) in
      let one : dialog ≡ x = same-some dialog x (sym there ∙ ap (slice_get d.dialogs) at ∙ e) in
      let two : after ≡ y = same-some after y (sym written-found ∙ ap (slice_get new.kept.items) at ∙ f) in
      subst (λ (n : ℕ). IsKeptAs look x (saved_at t n) (overwriting_at t n) y) at
      (subst (λ z. IsKeptAs look z (saved_at t place) (overwriting_at t place) y) one
      (subst (λ z. IsKeptAs look dialog (saved_at t place) (overwriting_at t place) z) two here)))
      (λ is g.
      let apart : j ≡ place → ⊥ = λ h. false≢true (sym g ∙ eq-eqb j place h) in
      let same = others j apart in
      subst (λ z. IsKeptAs look x z (overwriting_at t j) y) (sym same.0)
      (subst (λ z. IsKeptAs look x (saved_at s j) z y) (sym same.1) (are.kept j x y e (sym (others_found j apart) ∙ f))))
      refl

  -- ---- it stands

  pub stays-open : (origin : Point) (sheet : Option Picture) (log : List LogLine) → after.dialog.corner ≡ origin → after.dialog.sheet ≡ sheet → IsCorner origin → m.ended ≡ None → new.open ≡ Some place → new.is_held ≡ is_some m.held
      → after.values ≡ before.values → Stands look dialog m.leaves (record m { log = after.dialog.log.items }) after.dialog
      → AreDialogs look d (standing_state s place origin sheet m log) new
  stays-open origin sheet log corner lies near going opens held values stands =
      let t = standing_state s place origin sheet m log in
      let lines = after.dialog.log.items in
      record {
        count = written-count;
        saved = are.saved;
        overwriting = length-set s.overwriting place m.overwriting ∙ are.overwriting;
        kept = written-kept t
            (record {
              values = values ∙ (are.kept place dialog before there found).values;
              modal = record m { log = lines };
              overwrites = sym overwriting_here;
              rests = stands-rests look dialog m.leaves (record m { log = lines }) after.dialog stands;
            })
            (λ j apart. (refl, overwriting_other j apart));
        place = opens;
        held = held ∙ sym (some-kept (is_some m.held) (worked_dialog place origin sheet m));
        at = λ o e.
            let this : worked_dialog place origin sheet m ≡ o = same-some (worked_dialog place origin sheet m) o e in
            subst (λ x. IsOpenAmong look d t x new.kept.items) this (record {
              dialog = dialog;
              there = there;
              kept = after;
              found = written-found;
              stands = subst (λ n. Stands look dialog m.leaves n after.dialog) (sym (again m (overwriting_at t place) lines overwriting_here going)) stands;
              corner = corner;
              sheet = lies;
              near = near;
            });
        commands = written-commands;
      }

  -- ---- it has ended

  saved_here : (number : ℕ) → (if number == 11 then before.values else fields_of m.leaves)
      ≡ first_values dialog (unwrap_or (slice_get (saved_by place number m s.saved) place) None)
  saved_here number =
      bool_cases (number == 11)
      (λ b. (if b then before.values else fields_of m.leaves)
      ≡ first_values dialog (unwrap_or (slice_get (if b then s.saved else slice_set s.saved place (Some (fields_of m.leaves))) place) None))
      (λ is. (are.kept place dialog before there found).values)
      (λ is. sym (ap (λ o. first_values dialog (unwrap_or o None)) (get-set-same s.saved place (Some (fields_of m.leaves)) within_saved)))

  saved_other : (number j : ℕ) → (j ≡ place → ⊥) → unwrap_or (slice_get (saved_by place number m s.saved) j) None ≡ saved_at s j
  saved_other number j apart =
      bool_cases (number == 11)
      (λ b. unwrap_or (slice_get (if b then s.saved else slice_set s.saved place (Some (fields_of m.leaves))) j) None ≡ saved_at s j)
      (λ is. refl) (λ is. ap (λ o. unwrap_or o None) (get-set-other s.saved place j (Some (fields_of m.leaves)) apart))

  saved_count : (number : ℕ) → length (saved_by place number m s.saved) ≡ length d.dialogs
  saved_count number =
      bool_cases (number == 11) (λ b. length (if b then s.saved else slice_set s.saved place (Some (fields_of m.leaves))) ≡ length d.dialogs)
      (λ is. are.saved) (λ is. length-set s.saved place (Some (fields_of m.leaves)) ∙ are.saved)

  pub has-ended : (number : ℕ) (log : List LogLine) → new.open ≡ None → new.is_held ≡ false → after.values ≡ (if number == 11 then before.values else fields_of m.leaves)
      → Stands look dialog m.leaves m after.dialog → AreDialogs look d (ended_state s place number m log) new
  has-ended number log shut held values stands =
      let t = ended_state s place number m log in
      record {
        count = written-count;
        saved = saved_count number;
        overwriting = length-set s.overwriting place m.overwriting ∙ are.overwriting;
        kept = written-kept t
            (record {
              values = values ∙ saved_here number;
              modal = m;
              overwrites = sym overwriting_here;
              rests = stands-rests look dialog m.leaves m after.dialog stands;
            })
            (λ j apart. (saved_other number j apart, overwriting_other j apart));
        place = shut;
        held = held;
        at = λ o e. absurd (nothing-some o e);
        commands = written-commands;
      }
