-- The open dialog as it is read at its place.
use Rattle.std.proofs.Common.{◌≡◌, ◌<◌, ℕ, length, Option, Some, option_map, refl, sym, ap, subst, ◌∙◌}
use Rattle.std.specs.Prelude.{slice_get, slice_index_or}
use Rattle.std.proofs.lemmas.Option.{get_or_from_slice_get, slice_get_within}
use Rattle.tv_model.specs.declared.desc.Desc.{Desc}
use Rattle.tv_model.specs.declared.desc.Dialog.{Dialog}
use Rattle.tv_view.specs.Meaning.{Leaf}
use Rattle.tv_machine.specs.State.{OpenDialog, State}
use Rattle.tv_machine.proofs.ListLemmas.{option_cases}
use Rattle.tv_dialogs.specs.Dialogs.{AreDialogs, IsOpenAmong}
use Rattle.tv_dialogs.specs.declared.kept.Kept.{Kept}
use Rattle.tv_dialogs.specs.declared.dialogs.DialogsOf.{DialogsOf}
use Rattle.tv_dialogs.proofs.PlaceLemmas.{nothing-some, same-some}

abbrev places : Option OpenDialog → Option ℕ
places o = option_map (λ x. x.place) o

module _ {V : Type 0} (look : V → Leaf) (d : Desc) (s : State) (dialogs : DialogsOf V) (are : AreDialogs look d s dialogs) (place : ℕ) (opens : dialogs.open ≡ Some place) where
  -- where a place is told, a dialog is open there
  pub place-told : (o : OpenDialog) × (s.dialog ≡ Some o) × (place ≡ o.place)
  place-told =
      option_cases s.dialog (λ x. s.dialog ≡ x → (o : OpenDialog) × (s.dialog ≡ Some o) × (place ≡ o.place))
      (λ none e. absurd (nothing-some place (sym (ap places e) ∙ sym are.place ∙ opens)))
      (λ o some e. (o, e, same-some place o.place (sym opens ∙ are.place ∙ ap places e))) refl

  -- it is the open one's
  pub place-of : (o : OpenDialog) → s.dialog ≡ Some o → place ≡ o.place
  place-of o is = same-some place o.place (sym opens ∙ are.place ∙ ap places is)

  pub place-kept : place < length dialogs.kept.items
  place-kept =
      let told = place-told in
      let x = are.at told.0 told.1 in
      subst (λ (n : ℕ). n < length dialogs.kept.items) (sym told.2) (slice_get_within dialogs.kept.items told.0.place x.kept x.found)

  pub place-declared : place < length d.dialogs
  place-declared =
      let told = place-told in
      let x = are.at told.0 told.1 in
      subst (λ (n : ℕ). n < length d.dialogs) (sym told.2) (slice_get_within d.dialogs told.0.place x.dialog x.there)

  -- what is read there is the dialog that stands as the machine's
  module _ (o : OpenDialog) (is : s.dialog ≡ Some o) where
    abbrev among : IsOpenAmong look d s o dialogs.kept.items
    among = are.at o is

    pub read-declared : (declared : Dialog) → declared ≡ slice_index_or d.dialogs place declared → declared ≡ among.dialog
    read-declared declared reads =
        reads ∙ get_or_from_slice_get d.dialogs place among.dialog declared (ap (slice_get d.dialogs) (place-of o is) ∙ among.there)

    pub read-kept : (kept : Kept V) → kept ≡ slice_index_or dialogs.kept.items place kept → kept ≡ among.kept
    read-kept kept reads =
        reads ∙ get_or_from_slice_get dialogs.kept.items place among.kept kept (ap (slice_get dialogs.kept.items) (place-of o is) ∙ among.found)
