-- The dialog that is open: what it answers is what the machine's state has.
use Rattle.std.proofs.Common.{◌≡◌, ◌<◌, ℕ, false, List, Option, Some, None, is_some, option_map, refl, sym, ap, ◌∙◌}
use Rattle.std.specs.Prelude.{slice_index_or}
use Rattle.tv_model.specs.declared.desc.Desc.{Desc}
use Rattle.tv_view.specs.Meaning.{Leaf}
use Rattle.tv_machine.specs.State.{OpenDialog, State}
use Rattle.tv_machine.specs.Session.Enabled.{enabled_by, enabled_in, is_enabled_now}
use Rattle.tv_machine.specs.Session.Step.{dialog_with_hold}
use Rattle.tv_machine.proofs.ListLemmas.{option_cases}
use Rattle.tv_group.specs.Calls.{any_holds}
use Rattle.tv_group.specs.Opened.{opened}
use Rattle.tv_group.proofs.Tree.Mouse.TakenLemmas.{any-holds}
use Rattle.tv_dialog.proofs.StandsLemmas.{some-kept}
use Rattle.tv_dialogs.specs.Dialogs.{AreDialogs, AreOfRun, IsOpenAmong, at_work, kept_at}
use Rattle.tv_dialogs.specs.declared.kept.Kept.{Kept}
use Rattle.tv_dialogs.specs.declared.dialogs.DialogsOf.{DialogsOf}
use Rattle.tv_dialogs.proofs.PlaceLemmas.{nothing-some, same-some}
use Rattle.tv_dialogs.proofs.RunLemmas.{holds-leaf}

-- what is kept is that of the open dialog
pub record IsCurrent {V : Type 0} (look : V → Leaf) (d : Desc) (s : State) (all : List (Kept V)) (k : Kept V) : Type 0 where
  pub o : OpenDialog
  pub is : s.dialog ≡ Some o
  pub among : IsOpenAmong look d s o all
  pub same : among.kept ≡ k

module _ {V : Type 0} (look : V → Leaf) (d : Desc) (s : State) (dialogs : DialogsOf V) (are : AreDialogs look d s dialogs) where
  current_by : (o : Option OpenDialog) → s.dialog ≡ o → kept_at dialogs dialogs.open ≡ kept_at dialogs (option_map (λ x. x.place) o)
  current_by o e = ap (kept_at dialogs) (are.place ∙ ap (λ x. option_map (λ y. y.place) x) e)

  pub current-some : (k : Kept V) → Some k ≡ kept_at dialogs dialogs.open → IsCurrent look d s dialogs.kept.items k
  current-some k e =
      option_cases s.dialog (λ o. s.dialog ≡ o → IsCurrent look d s dialogs.kept.items k)
      (λ none f. absurd (nothing-some k (sym (current_by None f) ∙ sym e)))
      (λ o some f.
      let among = are.at o f in
      record { o = o; is = f; among = among; same = same-some among.kept k (sym among.found ∙ sym (current_by (Some o) f) ∙ sym e) })
      refl

  pub current-none : None ≡ kept_at dialogs dialogs.open → s.dialog ≡ None
  current-none e =
      option_cases s.dialog (λ o. s.dialog ≡ o → o ≡ None) (λ none f. refl)
      (λ o some f. let among = are.at o f in absurd (nothing-some among.kept (e ∙ current_by (Some o) f ∙ among.found)))
      refl

  -- ---- what it answers

  pub focus-some : (k : Kept V) → Some k ≡ kept_at dialogs dialogs.open → Some k.dialog.focus ≡ option_map (λ o. o.focus) s.dialog
  focus-some k e =
      let x = current-some k e in
      ap (λ y. Some y.dialog.focus) (sym x.same) ∙ ap (λ i. Some i) x.among.stands.focus ∙ sym (ap (λ o. option_map (λ y. y.focus) o) x.is)

  pub focus-none : None ≡ kept_at dialogs dialogs.open → None ≡ option_map (λ o. o.focus) s.dialog
  focus-none e = sym (ap (λ o. option_map (λ y. y.focus) o) (current-none e))

  pub enabled-some : (k : Kept V) → Some k ≡ kept_at dialogs dialogs.open → (number : ℕ) → number < 256
      → slice_index_or k.dialog.ruled.commands number false ≡ is_enabled_now d s number
  enabled-some k e number less =
      let x = current-some k e in
      ap (λ y. slice_index_or y.dialog.ruled.commands number false) (sym x.same) ∙ x.among.stands.commands number less
      ∙ sym (ap (λ o. enabled_in d o number) x.is ∙ ap (enabled_by x.o.leaves number) x.among.there)

  pub enabled-none : None ≡ kept_at dialogs dialogs.open → (number : ℕ) → number < 256
      → slice_index_or dialogs.commands number false ≡ is_enabled_now d s number
  enabled-none e number less = are.commands number less ∙ sym (ap (λ o. enabled_in d o number) (current-none e))

module _ {V : Type 0} (look : V → Leaf) (d : Desc) (s : State) (dialogs : DialogsOf V) (run : AreOfRun look d s dialogs) where
  pub held-some : (k : Kept V) → Some k ≡ kept_at dialogs dialogs.open → any_holds (opened look k.dialog.body) ≡ is_some (dialog_with_hold s.dialog)
  held-some k e =
      let x = current-some look d s dialogs run.are k e in
      let m = at_work s x.o x.among.kept.dialog.log.items in
      ap (λ y. any_holds (opened look y.dialog.body)) (sym x.same) ∙ ap any_holds x.among.stands.tree
      ∙ any-holds x.among.dialog x.o.leaves m (holds-leaf d s x.o x.is run.fit x.among.dialog x.among.there)
      ∙ sym (ap (λ o. is_some (dialog_with_hold o)) x.is ∙ some-kept (is_some x.o.held) x.o)
