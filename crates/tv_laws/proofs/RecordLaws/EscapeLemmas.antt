-- The open dialog can be left: by Esc, and after a mouse up by Esc whatever held the mouse.
use Rattle.std.proofs.Common.{◌≡◌, false, not, ◌&&◌, ℕ, if◌then◌else◌, get_or, is_none, is_some, Option, Some, None, refl, sym, ap, subst, ◌∙◌}
use Rattle.std.specs.Prelude.{slice_get}
use Rattle.std.proofs.lemmas.Bool.{false≢true}
use Rattle.tv_cells.specs.declared.rect.Point.{Point}
use Rattle.tv_event.specs.declared.event.Event.TheVariants as events
use Rattle.tv_event.specs.declared.event.Key.{Key}
use Rattle.tv_event.specs.declared.event.Key.TheVariants as keys
use Rattle.tv_model.specs.declared.desc.Desc.{Desc}
use Rattle.tv_model.specs.declared.desc.Dialog.{Dialog}
use Rattle.tv_model.specs.Faults.Letters.{is_same_key}
use Rattle.tv_machine.specs.State.{HeldFrame, OpenDialog, State}
use Rattle.tv_machine.specs.Dialog.Ending.{ended}
use Rattle.tv_machine.specs.Dialog.Modal.{Modal}
use Rattle.tv_machine.specs.Dialog.Step.{dialog_step}
use Rattle.tv_machine.specs.Session.Commands.{after_work, do_command, modal_of, dialog_after, works}
use Rattle.tv_machine.specs.Session.Dragging.{corner_at, let_go, placed, step_dragged}
use Rattle.tv_machine.specs.Session.Enabled.{is_enabled_now}
use Rattle.tv_machine.specs.Session.Menu.{close_menu}
use Rattle.tv_machine.specs.Session.Step.{dialog_with_hold, event_from, is_item_enabled, status_item_of, step, to_dialog, with_empty_log}
use Rattle.tv_laws.specs.Escape.{EscCancelsOpen, IsCancelled, UpEscCancels, UpEscLeaves, UpFreesFrame, UpFreesMouse, escape}
use Rattle.tv_laws.specs.Records.{StaysOver}
use Rattle.tv_laws.specs.Runs.{HasSoundDialogs, IsFitState}
use Rattle.tv_laws.specs.Runs.IsNext.{by_command, by_event}
use Rattle.tv_laws.proofs.DragLemmas.{dropped-cases, moved_to, placed-frame}
use Rattle.tv_laws.proofs.LeavingLemmas.{esc-cancels, up-lets-go}
use Rattle.tv_machine.proofs.ListLemmas.{bool_cases, find-none, option_cases}
use Rattle.tv_machine.proofs.StepLemmas.{key_by_dialog, key_by_item, key_by_menu, step_by_frame, step_by_hold}
use Rattle.tv_laws.proofs.RunLemmas.{not_some, steps-fit}
use Rattle.tv_laws.proofs.WorkLemmas.{nothing, sound-at}

-- nothing happens once the run is over
pub stays-over : (d : Desc) → StaysOver d
stays-over d s after over (by_event e is) = is ∙ ap (λ b. if b then with_empty_log s else step_by_frame d s.frame e (with_empty_log s)) over
stays-over d s after over (by_command number is) =
    is
    ∙ ap (λ b. if not b && is_none s.frame && is_none (dialog_with_hold s.dialog) && is_enabled_now d s number then do_command d number (close_menu (with_empty_log s)) else with_empty_log s) over

-- ---- no status item has Esc

never_esc : (k : Key) → is_same_key k keys.Esc ≡ false
never_esc (keys.Function n) = refl
never_esc (keys.Ctrl ch) = refl
never_esc (keys.Alt ch) = refl
never_esc _ = refl

no_item : (d : Desc) (s : State) → status_item_of d s keys.Esc ≡ None
no_item d s =
    find-none (λ item. is_same_key item.key keys.Esc && is_item_enabled d s item) d.status
    (λ k e h. ap (λ b. b && is_item_enabled d s (get_or d.status k e)) (never_esc (get_or d.status k e).key))

module _ (d : Desc) (sound : HasSoundDialogs d) where
  -- ---- Esc while a dialog is open

  esc_step : (s : State) (o : OpenDialog) → s.dialog ≡ Some o → o.held ≡ None → s.frame ≡ None → s.menu ≡ None → s.is_over ≡ false
      → step d s escape ≡ to_dialog d o escape (with_empty_log s)
  esc_step s o some idle free menu over =
      ap (λ b. if b then with_empty_log s else step_by_frame d s.frame escape (with_empty_log s)) over
      ∙ ap (λ frame. step_by_frame d frame escape (with_empty_log s)) free
      ∙ ap (λ x. step_by_hold d (dialog_with_hold x) escape (with_empty_log s)) some
      ∙ ap (λ h. step_by_hold d (if is_some h then Some o else None) escape (with_empty_log s)) idle
      ∙ ap (λ m. key_by_menu d m keys.Esc (with_empty_log s)) menu
      ∙ ap (λ item. key_by_item d item keys.Esc (with_empty_log s)) (no_item d (with_empty_log s))
      ∙ ap (λ x. key_by_dialog d x keys.Esc (with_empty_log s)) some

  esc_ends : (s : State) (o : OpenDialog) (dialog : Dialog) → slice_get d.dialogs o.place ≡ Some dialog → o.held ≡ None
      → to_dialog d o escape s ≡ after_work s o (ended dialog 11 (modal_of s o)) (Some 11)
  esc_ends s o dialog there idle =
      ap (works s o (λ x m. dialog_step x (event_from o.origin escape) m)) there
      ∙ ap (λ m. after_work s o m m.ended) (esc-cancels dialog (modal_of s o) idle)

  cancelled : (s : State) (o : OpenDialog) → IsFitState d s → s.dialog ≡ Some o → o.held ≡ None → s.frame ≡ None → IsCancelled d s o (step d s escape)
  cancelled s o f some idle free =
      let x = f.«open» o some in
      subst (IsCancelled d s o) (sym (esc_step s o some idle free x.menu x.over ∙ esc_ends (with_empty_log s) o x.dialog x.there idle))
      (record { dialog = x.dialog; there = x.there; closed = refl; written = refl; saved = refl })

  pub esc-cancels-open : EscCancelsOpen d
  esc-cancels-open s o f some idle free = cancelled s o f some idle free

  -- ---- a mouse up

  -- no leaf holds the mouse
  abbrev IsLoose : State → Type 0
  IsLoose s = (o : OpenDialog) → s.dialog ≡ Some o → o.held ≡ None

  loose_work : (s : State) (o : OpenDialog) (m : Modal) (over : Option ℕ) → m.held ≡ None → IsLoose (after_work s o m over)
  loose_work s o m None idle x e = let same : dialog_after o m ≡ x = cc in subst (λ y. y.held ≡ None) same idle
  loose_work s o m (Some number) idle x e = absurd (nothing x e)

  loose_up : (s : State) (o : OpenDialog) (p : Point) → IsFitState d s → s.dialog ≡ Some o → IsLoose (to_dialog d o (events.Up p) (with_empty_log s))
  loose_up s o p f some =
      let x = f.«open» o some in
      let e = event_from o.origin (events.Up p) in
      let m = dialog_step x.dialog e (modal_of (with_empty_log s) o) in
      subst (λ found. IsLoose (works (with_empty_log s) o (λ y n. dialog_step y e n) found)) (sym x.there)
      (loose_work (with_empty_log s) o m m.ended (up-lets-go x.dialog (sound-at d sound o.place x.dialog x.there) (modal_of (with_empty_log s) o) _))

  not_holding : (s : State) (o : OpenDialog) → s.dialog ≡ Some o → is_some o.held ≡ false → IsLoose (with_empty_log s)
  not_holding s o some idle x e =
      let both : Some o ≡ Some x = sym some ∙ e in
      let same : o ≡ x = cc in
      subst (λ y. y.held ≡ None) same (option_cases o.held (λ h. is_some h ≡ false → h ≡ None) (λ none g. refl) (λ h is g. absurd (false≢true (sym g))) idle)

  loose_at : (s : State) (p : Point) → IsFitState d s → IsLoose (step_by_hold d (dialog_with_hold s.dialog) (events.Up p) (with_empty_log s))
  loose_at s p f =
      option_cases s.dialog (λ x. IsLoose (step_by_hold d (dialog_with_hold x) (events.Up p) (with_empty_log s)))
      (λ none x e. absurd (nothing x (sym none ∙ e)))
      (λ o some. bool_cases (is_some o.held) (λ b. IsLoose (step_by_hold d (if b then Some o else None) (events.Up p) (with_empty_log s)))
      (λ holds. loose_up s o p f some) (λ idle. not_holding s o some idle))

  -- while a frame is held no leaf is
  loose_held : (o : OpenDialog) → dialog_with_hold (Some o) ≡ None → o.held ≡ None
  loose_held o =
      bool_cases (is_some o.held) (λ b. is_some o.held ≡ b → (if b then Some o else None) ≡ None → o.held ≡ None)
      (λ is holds e. absurd (nothing o (sym e))) (λ is loose e. not_some o.held loose) refl

  loose_drop : (s : State) (p : Point) (frame : HeldFrame) → s.frame ≡ Some frame → IsFitState d s
      → IsLoose (step_dragged d frame (events.Up p) (with_empty_log s))
  loose_drop s p frame held f =
      let corner = corner_at d frame p in
      let t = let_go (with_empty_log s) in
      let moved : IsLoose (placed s.dialog corner t) =
      option_cases s.dialog (λ x. s.dialog ≡ x → IsLoose (placed x corner t)) (λ is none x e. absurd (nothing x (sym none ∙ e)))
      (λ o is some x e.
      let same : moved_to corner o ≡ x = cc in
      subst (λ y. y.held ≡ None) same (loose_held o (sym (ap dialog_with_hold some) ∙ (f.frame frame held).leaf))) refl in
      dropped-cases d IsLoose frame corner (placed s.dialog corner t) moved (λ i. moved)

  up_loose : (s : State) (p : Point) → IsFitState d s → IsLoose (step d s (events.Up p))
  up_loose s p f =
      bool_cases s.is_over (λ b. s.is_over ≡ b → IsLoose (if b then with_empty_log s else step_by_frame d s.frame (events.Up p) (with_empty_log s)))
      (λ is over x e. absurd (false≢true (sym (f.«open» x e).over ∙ over)))
      (λ is goes. option_cases s.frame (λ frame. IsLoose (step_by_frame d frame (events.Up p) (with_empty_log s))) (λ free. loose_at s p f)
      (λ frame held. loose_drop s p frame held f)) refl

  pub up-frees-mouse : UpFreesMouse d
  up-frees-mouse s p o f some = up_loose s p f o some

  -- ---- and no frame is held after it

  same_frame : (s : State) (o : OpenDialog) (m : Modal) (over : Option ℕ) → (after_work s o m over).frame ≡ s.frame
  same_frame s o m None = refl
  same_frame s o m (Some number) = refl

  free_work : (s : State) (o : OpenDialog) (p : Point) → s.frame ≡ None → (to_dialog d o (events.Up p) s).frame ≡ None
  free_work s o p free =
      let work : Dialog → Modal → Modal = λ dialog m. dialog_step dialog (event_from o.origin (events.Up p)) m in
      option_cases (slice_get d.dialogs o.place) (λ found. (works s o work found).frame ≡ None) (λ none. free)
      (λ dialog there. same_frame s o (work dialog (modal_of s o)) (work dialog (modal_of s o)).ended ∙ free)

  free_at : (s : State) (p : Point) → s.frame ≡ None → (step_by_hold d (dialog_with_hold s.dialog) (events.Up p) (with_empty_log s)).frame ≡ None
  free_at s p free =
      option_cases (dialog_with_hold s.dialog) (λ o. (step_by_hold d o (events.Up p) (with_empty_log s)).frame ≡ None) (λ none. free)
      (λ o holds. free_work (with_empty_log s) o p free)

  free_drop : (s : State) (p : Point) (frame : HeldFrame) → (step_dragged d frame (events.Up p) s).frame ≡ None
  free_drop s p frame =
      let corner = corner_at d frame p in
      let is : (placed s.dialog corner (let_go s)).frame ≡ None = placed-frame s.dialog corner (let_go s) in
      dropped-cases d (λ t. t.frame ≡ None) frame corner (placed s.dialog corner (let_go s)) is (λ i. is)

  up_frees : (s : State) (p : Point) → IsFitState d s → (step d s (events.Up p)).frame ≡ None
  up_frees s p f =
      option_cases s.frame (λ x. s.frame ≡ x → (if s.is_over then with_empty_log s else step_by_frame d x (events.Up p) (with_empty_log s)).frame ≡ None)
      (λ is free. bool_cases s.is_over (λ b. (if b then with_empty_log s else step_by_hold d (dialog_with_hold s.dialog) (events.Up p) (with_empty_log s)).frame ≡ None) (λ over. free) (λ goes. free_at s p free))
      (λ frame is held.
      ap (λ b. (if b then with_empty_log s else step_dragged d frame (events.Up p) (with_empty_log s)).frame) (f.frame frame held).over ∙ free_drop (with_empty_log s) p frame) refl

  pub up-frees-frame : UpFreesFrame d
  up-frees-frame s p f = up_frees s p f

  -- ---- a mouse up and Esc

  -- no dialog is open, and Esc opens none
  esc_idle : (s : State) → s.dialog ≡ None → s.frame ≡ None → (step d s escape).dialog ≡ None
  esc_idle s none free =
      bool_cases s.is_over (λ b. (if b then with_empty_log s else step_by_frame d s.frame escape (with_empty_log s)).dialog ≡ None) (λ over. none)
      (λ goes. ap (λ frame. (step_by_frame d frame escape (with_empty_log s)).dialog) free ∙ ap (λ x. (step_by_hold d (dialog_with_hold x) escape (with_empty_log s)).dialog) none
      ∙ option_cases s.menu (λ menu. (key_by_menu d menu keys.Esc (with_empty_log s)).dialog ≡ None)
      (λ shut. ap (λ item. (key_by_item d item keys.Esc (with_empty_log s)).dialog) (no_item d (with_empty_log s)) ∙ ap (λ x. (key_by_dialog d x keys.Esc (with_empty_log s)).dialog) none ∙ none)
      (λ menu is. none))

  esc_loose : (s : State) → IsFitState d s → IsLoose s → s.frame ≡ None → (step d s escape).dialog ≡ None
  esc_loose s f idle free =
      option_cases s.dialog (λ x. s.dialog ≡ x → (step d s escape).dialog ≡ None) (λ none e. esc_idle s e free) (λ o some e. (cancelled s o f e (idle o e) free).closed) refl

  pub up-esc-leaves : UpEscLeaves d
  up-esc-leaves s p f = esc_loose (step d s (events.Up p)) (steps-fit d sound s (events.Up p) f) (up_loose s p f) (up_frees s p f)

  pub up-esc-cancels : UpEscCancels d
  up-esc-cancels s p o f some =
      cancelled (step d s (events.Up p)) o (steps-fit d sound s (events.Up p) f) some (up_loose s p f o some) (up_frees s p f)
