-- A run in which a sheet is laid.
use Rattle.std.proofs.Common.{◌≡◌, ◌==◌, Bool, true, false, if◌then◌else◌, List, map, Option, Some, None, option_map, refl, sym, ap, subst, ◌∙◌}
use Rattle.std.specs.Option.{option_map_or}
use Rattle.std.specs.Prelude.{is_some, slice_get}
use Rattle.std.proofs.lemmas.Bool.{true≢false}
use Rattle.tv_cells.specs.Picture.{Picture}
use Rattle.tv_cells.specs.declared.rect.Rect.{Rect}
use Rattle.tv_model.specs.declared.desc.Desc.{Desc}
use Rattle.tv_model.specs.declared.desc.Dialog.{Dialog}
use Rattle.tv_model.specs.declared.node.Id.{Id}
use Rattle.tv_machine.specs.Session.Laid.{has_open, laid, laid_by_dialog, laid_in_dialog, laid_in_windows}
use Rattle.tv_machine.specs.State.{OpenDialog, State}
use Rattle.tv_machine.proofs.ListLemmas.{option_cases}
use Rattle.tv_session.specs.Running.{IsRun}
use Rattle.tv_session.specs.declared.run.RunOf.{RunOf}
use Rattle.tv_view.specs.Meaning.{Leaf}

false-not : {b : Bool} → b ≡ true → b ≡ false → ⊥
false-not e f = let g : true ≡ false = sym e ∙ f in absurd cc

module _ (d : Desc) (i : Id) (s : State) where
  -- ---- whether the dialog that is open has the id

  pub none-open : s.dialog ≡ None → has_open d i s.dialog ≡ false
  none-open none = ap (has_open d i) none

  pub open-by-id : (o : OpenDialog) (id : Option Id) → s.dialog ≡ Some o → id ≡ option_map (λ dialog. dialog.node.id) (slice_get d.dialogs o.place)
      → option_map_or (λ (k : Id). k.0 == i.0) id false ≡ has_open d i s.dialog
  open-by-id o id some is =
      ap (λ x. option_map_or (λ (k : Id). k.0 == i.0) x false) is ∙ by_dialog (slice_get d.dialogs o.place) ∙ sym (ap (has_open d i) some)
    where
      by_dialog : (found : Option Dialog) → option_map_or (λ (k : Id). k.0 == i.0) (option_map (λ (dialog : Dialog). dialog.node.id) found) false
          ≡ option_map_or (λ (dialog : Dialog). dialog.node.id.0 == i.0) found false
      by_dialog None = refl
      by_dialog (Some dialog) = refl

  -- ---- where it is laid

  module _ (sheet : Option Picture) where
    pub laid-in-open : (o : OpenDialog) → s.dialog ≡ Some o → has_open d i s.dialog ≡ true → laid d i sheet s ≡ laid_in_dialog o sheet s
    laid-in-open o some here =
        ap (λ x. laid_by_dialog d i sheet x s) some ∙ ap (λ b. if b then laid_in_dialog o sheet s else laid_in_windows i sheet s) (sym (ap (has_open d i) some) ∙ here)

    pub laid-beside : has_open d i s.dialog ≡ false → laid d i sheet s ≡ laid_in_windows i sheet s
    laid-beside other =
        option_cases s.dialog (λ o. has_open d i o ≡ false → laid_by_dialog d i sheet o s ≡ laid_in_windows i sheet s) (λ none e. refl)
        (λ o some e. ap (λ b. if b then laid_in_dialog o sheet s else laid_in_windows i sheet s) e) other

  pub some-open : has_open d i s.dialog ≡ true → (o : OpenDialog) × (s.dialog ≡ Some o)
  some-open here =
      option_cases s.dialog (λ o. s.dialog ≡ o → (x : OpenDialog) × (s.dialog ≡ Some x))
      (λ none e. absurd (false-not here (ap (has_open d i) e))) (λ o some e. (o, e)) refl

  -- what is answered of the id of the open dialog
  pub some-has : (own : Id) (id : Option Id) → id ≡ Some own → ((o : OpenDialog) → s.dialog ≡ Some o → id ≡ option_map (λ dialog. dialog.node.id) (slice_get d.dialogs o.place))
      → (s.dialog ≡ None → id ≡ None) → (own.0 == i.0) ≡ has_open d i s.dialog
  some-has own id is of_open none =
      option_cases s.dialog (λ o. s.dialog ≡ o → (own.0 == i.0) ≡ has_open d i s.dialog)
      (λ gone e. absurd (nothing-some (sym (none e) ∙ is)))
      (λ o some e. ap (λ x. option_map_or (λ (k : Id). k.0 == i.0) x false) (sym is) ∙ open-by-id o id e (of_open o e)) refl
    where
      nothing-some : None ≡ Some own → ⊥
      nothing-some e = absurd cc

  pub none-has : (id : Option Id) → id ≡ None → ((o : OpenDialog) → s.dialog ≡ Some o → id ≡ option_map (λ dialog. dialog.node.id) (slice_get d.dialogs o.place))
      → false ≡ has_open d i s.dialog
  none-has id is of_open =
      option_cases s.dialog (λ o. s.dialog ≡ o → false ≡ has_open d i s.dialog) (λ gone e. sym (none-open e))
      (λ o some e. ap (λ x. option_map_or (λ (k : Id). k.0 == i.0) x false) (sym is) ∙ open-by-id o id e (of_open o e)) refl

pub none-is : {A : Type 0} (o : Option A) → is_some o ≡ false → o ≡ None
none-is None e = refl
none-is (Some x) e = absurd (true≢false e)

-- the run is the same whatever it has damaged
pub undamaged : {V : Type 0} (look : V → Leaf) (d : Desc) (s : State) (run : RunOf V) (damage : List Rect) → IsRun look d s run → IsRun look d s (record run { damage = damage })
undamaged look d s run damage r = record { desk = r.desk; dialogs = r.dialogs; bar = r.bar; menu = r.menu; frame = r.frame; over = r.over; log = r.log }
