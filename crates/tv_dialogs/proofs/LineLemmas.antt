-- The lines of a dialog, where another is written.
use Rattle.std.proofs.Common.{◌≡◌, ◌==◌, ◌∙◌, ℕ, List, None, Option, Some, ap, refl, sym}
use Rattle.std.specs.Option.{option_and_then}
use Rattle.std.specs.Prelude.{slice_get, slice_set}
use Rattle.std.proofs.lemmas.Bool.{eq-eqb, eqb-true, false≢true}
use Rattle.std.proofs.lemmas.Option.{slice_get_within}
use Rattle.tv_machine.proofs.ListLemmas.{bool_cases}
use Rattle.tv_machine.specs.State.{State}
use Rattle.tv_model.specs.declared.desc.Desc.{Desc}
use Rattle.tv_view.specs.Meaning.{Leaf}
use Rattle.tv_dialogs.specs.Dialogs.{AreDialogs, lines_by}
use Rattle.tv_dialogs.specs.declared.kept.Kept.{Kept}
use Rattle.tv_dialogs.specs.declared.dialogs.DialogsOf.{DialogsOf}
use Rattle.tv_dialogs.proofs.PlaceLemmas.{get-set-other, get-set-same}

-- what is written in the place of a dialog has its lines
pub written-lines : {V : Type 0} (items : List (Kept V)) (place : ℕ) (before after : Kept V) → slice_get items place ≡ Some before
    → lines_by (slice_get (slice_set items place after) place) ≡ after.dialog.log.items
written-lines items place before after found = ap lines_by (get-set-same items place after (slice_get_within items place before found))

-- and where these are the same, no dialog has others
pub same-lines : {V : Type 0} (items : List (Kept V)) (place : ℕ) (before after : Kept V) → slice_get items place ≡ Some before
    → after.dialog.log.items ≡ before.dialog.log.items → (last : Option ℕ)
    → lines_by (option_and_then (slice_get (slice_set items place after)) last) ≡ lines_by (option_and_then (slice_get items) last)
same-lines items place before after found same None = refl
same-lines items place before after found same (Some n) =
    bool_cases (n == place) (λ b. (n == place) ≡ b → lines_by (slice_get (slice_set items place after) n) ≡ lines_by (slice_get items n))
    (λ here e.
    let at : n ≡ place = eqb-true n place e in
    ap (λ (k : ℕ). lines_by (slice_get (slice_set items place after) k)) at ∙ written-lines items place before after found ∙ same
    ∙ sym (ap lines_by (ap (slice_get items) at ∙ found)))
    (λ other e.
    let apart : n ≡ place → ⊥ = λ h. false≢true (sym e ∙ eq-eqb n place h) in
    ap lines_by (get-set-other items place n after apart))
    refl

-- which of them worked last is no part of what they are
pub still-dialogs : {V : Type 0} (look : V → Leaf) (d : Desc) (s : State) (dialogs : DialogsOf V) (last : Option ℕ) → AreDialogs look d s dialogs
    → AreDialogs look d s (record dialogs { last = last })
still-dialogs look d s dialogs last are = record {
  count = are.count;
  saved = are.saved;
  overwriting = are.overwriting;
  kept = are.kept;
  place = are.place;
  held = are.held;
  at = are.at;
  commands = are.commands;
}
