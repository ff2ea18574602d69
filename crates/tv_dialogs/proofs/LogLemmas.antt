-- Dialogs whose lines were moved elsewhere stand as they did.
use Rattle.std.proofs.Common.{◌≡◌, ◌<◌, ◌==◌, ℕ, [], Some, refl, sym, ap, subst, ◌∙◌}
use Rattle.std.specs.Prelude.{slice_get, slice_set}
use Rattle.std.proofs.lemmas.Bool.{eq-eqb, eqb-true, false≢true}
use Rattle.std.proofs.lemmas.Option.{slice_get_within}
use Rattle.tv_model.specs.declared.desc.Desc.{Desc}
use Rattle.tv_model.specs.declared.desc.Dialog.{Dialog}
use Rattle.tv_view.specs.Meaning.{Leaf}
use Rattle.tv_machine.specs.Session.Commands.{overwriting_at, saved_at}
use Rattle.tv_machine.specs.State.{OpenDialog, State}
use Rattle.tv_machine.proofs.ListLemmas.{bool_cases}
use Rattle.tv_dialog.specs.Standing.{Stands}
use Rattle.tv_dialog.specs.declared.dialog.DialogOf.{DialogOf}
use Rattle.tv_dialogs.specs.Dialogs.{AreDialogs, IsOpenAmong, at_work}
use Rattle.tv_dialogs.specs.Kept.{IsKeptAs}
use Rattle.tv_dialogs.specs.declared.kept.Kept.{Kept}
use Rattle.tv_dialogs.specs.declared.dialogs.DialogsOf.{DialogsOf}
use Rattle.tv_dialogs.proofs.KeptLemmas.{written-commands, written-count, written-found, written-kept}
use Rattle.tv_dialogs.proofs.PlaceLemmas.{get-set-other, same-some, there-is}

-- a dialog without lines
abbrev pub emptied : {V : Type 0} → DialogOf V → DialogOf V
emptied dialog = record dialog { log = record { items = [] } }

module _ {V : Type 0} (look : V → Leaf) (d : Desc) (s : State) (old : DialogsOf V) (are : AreDialogs look d s old)
    (place : ℕ) (before : Kept V) (found : slice_get old.kept.items place ≡ Some before)
    (new : DialogsOf V) (written : new.kept.items ≡ slice_set old.kept.items place (record before { dialog = emptied before.dialog }))
    (lent : new.commands ≡ old.commands) where
  abbrev after : Kept V
  after = record before { dialog = emptied before.dialog }

  -- one is declared there
  is-declared : (dialog : Dialog) × (slice_get d.dialogs place ≡ Some dialog)
  is-declared =
      there-is d.dialogs place (subst (λ (n : ℕ). place < n) are.count (slice_get_within old.kept.items place before found))

  abbrev dialog : Dialog
  dialog = is-declared.0

  was : IsKeptAs look dialog (saved_at s place) (overwriting_at s place) before
  was = are.kept place dialog before is-declared.1 found

  found-after : slice_get new.kept.items place ≡ Some after
  found-after = written-found look d s old new are place dialog is-declared.1 before after found written lent was.modal

  kept-so : IsKeptAs look dialog (saved_at s place) (overwriting_at s place) after
  kept-so = record {
    values = was.values;
    modal = was.modal;
    overwrites = was.overwrites;
    rests = record { head = was.rests.head; plan = was.rests.plan; tree = was.rests.tree; steady = was.rests.steady; marks = was.rests.marks };
  }

  -- the open one stands, where it is the one whose lines were moved
  stands-without : (x : Dialog) (o : OpenDialog) → Stands look x o.leaves (at_work s o before.dialog.log.items) before.dialog
      → Stands look x o.leaves (at_work s o []) after.dialog
  stands-without x o is = record {
    head = is.head;
    plan = is.plan;
    tree = is.tree;
    steady = record { leaves = is.steady.leaves; contents = is.steady.contents };
    focus = is.focus;
    log = refl;
    «open» = is.«open»;
    ended = is.ended;
    marks = is.marks;
    commands = is.commands;
  }

  still-open : (o : OpenDialog) → s.dialog ≡ Some o → IsOpenAmong look d s o new.kept.items
  still-open o is =
      let x = are.at o is in
      bool_cases (o.place == place) (λ b. (o.place == place) ≡ b → IsOpenAmong look d s o new.kept.items)
      (λ here e.
      let at : o.place ≡ place = eqb-true o.place place e in
      let same : x.kept ≡ before = same-some x.kept before (sym x.found ∙ ap (slice_get old.kept.items) at ∙ found) in
      record {
        dialog = x.dialog;
        there = x.there;
        kept = after;
        found = ap (slice_get new.kept.items) at ∙ found-after;
        stands = stands-without x.dialog o (subst (λ k. Stands look x.dialog o.leaves (at_work s o k.dialog.log.items) k.dialog) same x.stands);
        corner = ap (λ k. k.dialog.corner) (sym same) ∙ x.corner;
        sheet = ap (λ k. k.dialog.sheet) (sym same) ∙ x.sheet;
        near = x.near;
      })
      (λ other e.
      let apart : o.place ≡ place → ⊥ = λ h. false≢true (sym e ∙ eq-eqb o.place place h) in
      record {
        dialog = x.dialog;
        there = x.there;
        kept = x.kept;
        found = ap (λ xs. slice_get xs o.place) written ∙ get-set-other old.kept.items place o.place after apart ∙ x.found;
        stands = x.stands;
        corner = x.corner;
        sheet = x.sheet;
        near = x.near;
      })
      refl

  pub moved-dialogs : new.open ≡ old.open → new.is_held ≡ old.is_held → AreDialogs look d s new
  moved-dialogs opens held = record {
    count = written-count look d s old new are place dialog is-declared.1 before after found written lent was.modal;
    saved = are.saved;
    overwriting = are.overwriting;
    kept = written-kept look d s old new are place dialog is-declared.1 before after found written lent was.modal s kept-so
        (λ j apart. (refl, refl));
    place = opens ∙ are.place;
    held = held ∙ are.held;
    at = still-open;
    commands = written-commands look d s old new are place dialog is-declared.1 before after found written lent was.modal;
  }
