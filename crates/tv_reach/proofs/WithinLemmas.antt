-- In every run the rules that hold lie within a closed list of masks, and what is never shown keeps its text.
use Rattle.std.proofs.Common.{◌≡◌, ◌⊎◌, inl, inr, false, ◌==◌, ℕ, zero, suc, List, [], ◌∷◌, map, get_or, length, position, replicate, Option, Some, None, unwrap_or, refl, sym, ap, subst, ◌∙◌}
use Rattle.std.specs.Prelude.{slice_get}
use Rattle.std.proofs.lemmas.List.Elements.{All-nil}
use Rattle.tv_event.specs.declared.event.Event.{Event}
use Rattle.tv_event.specs.declared.event.Event.TheVariants as events
use Rattle.tv_model.specs.declared.desc.Desc.{Desc}
use Rattle.tv_model.specs.declared.desc.Dialog.{Dialog}
use Rattle.tv_model.specs.Description.Commands.{command_number}
use Rattle.tv_model.specs.Description.Heads.{is_named}
use Rattle.tv_model.specs.Log.Record.{Entries}
use Rattle.tv_machine.specs.State.{LeafState, OpenDialog, State}
use Rattle.tv_machine.specs.Leaves.{PlacedNode, leaf_list}
use Rattle.tv_machine.specs.Dialog.Ending.{command, fields_of}
use Rattle.tv_machine.specs.Dialog.Modal.{Modal}
use Rattle.tv_machine.specs.Dialog.Opening.{opened_leaves}
use Rattle.tv_machine.specs.Dialog.Rules.{is_visible}
use Rattle.tv_machine.specs.Dialog.Step.{dialog_step, step_by}
use Rattle.tv_machine.specs.Output.{states}
use Rattle.tv_machine.specs.Safe.{IsSafeRecord}
use Rattle.tv_machine.specs.Session.Commands.{after_work, dialog_after, in_dialog, modal_of, open_found, saved_at, works}
use Rattle.tv_machine.specs.Session.Start.{closed, start, started_at, started_by}
use Rattle.tv_machine.specs.Session.Step.{step, with_empty_log}
use Rattle.tv_machine.proofs.LeafLemmas.{leaf_id, state_id}
use Rattle.tv_machine.proofs.ListLemmas.{bool_cases, option_cases}
use Rattle.tv_laws.specs.Ends.{IsOpen, NamesEndOf}
use Rattle.tv_laws.specs.Fit.{IsFitModal}
use Rattle.tv_laws.specs.Records.{IsEnd, IsEndless, ShowsSaved, opened_record}
use Rattle.tv_laws.specs.Runs.{HasSoundDialogs, IsFitState}
use Rattle.tv_laws.specs.Runs.IsNext.{by_event}
use Rattle.tv_laws.specs.Sound.{IsSoundDialog}
use Rattle.tv_laws.specs.Steps.{IsSafeSave, RespectsHold}
use Rattle.tv_laws.proofs.RecordLaws.SavedLemmas.{reopens-as-saved, saves-what-it-logs, starts-as-declared}
use Rattle.tv_laws.proofs.RunLemmas.{start-fit, steps-fit}
use Rattle.tv_laws.proofs.WorkLemmas.{get_set, nothing, saved_safe, sound-at}
use Rattle.tv_reach.specs.declared.mask.Mask.{Mask}
use Rattle.tv_reach.specs.Masks.{Covers, IsClosed, MayShow}
use Rattle.tv_reach.specs.Runs.{IsNeverShown, IsWithin, RunsWithin, StaysWithin}
use Rattle.tv_reach.proofs.FieldLemmas.{shown-values, starts-within, within-same}
use Rattle.tv_reach.proofs.HiddenLemmas.{hidden-texts-stay}
use Rattle.tv_reach.proofs.MaskLemmas.{at-any, closed-holds, visible-may}
use Rattle.tv_reach.proofs.OpenStepLemmas.{Comes, step-comes}

-- ---- the open dialog at work

module _ (d : Dialog) (sound : IsSoundDialog d) (masks : List Mask) (closed : IsClosed d masks) where
  -- what is never shown isn't visible
  not_visible : (leaves : List LeafState) → StaysWithin d masks leaves → (leaf : PlacedNode) → IsNeverShown d masks leaf
      → is_visible d leaves leaf ≡ false
  not_visible leaves stays leaf never =
      bool_cases (is_visible d leaves leaf) (λ b. b ≡ false)
      (λ is. absurd (at-any (λ mask. MayShow d leaf mask → ⊥) (Covers d leaves) masks never stays.rules
      (λ mask no covers. no (visible-may d leaves mask covers leaf is))))
      (λ is. refl)

  pub event-within : (m : Modal) (e : Event) → IsOpen d m → RespectsHold m.held e → StaysWithin d masks m.leaves
      → StaysWithin d masks (dialog_step d e m).leaves
  event-within m e o given stays = record {
    rules = closed-holds d sound masks m e closed o given stays.rules;
    hidden = λ k leaf h never.
        sym (hidden-texts-stay d sound m e o k leaf h (not_visible m.leaves stays (get_or (leaf_list d.views) k leaf) never))
        ∙ stays.hidden k leaf h never;
  }

  -- a command does what an event does that hands it in
  pub command-within : (m : Modal) (number : ℕ) → IsOpen d m → m.held ≡ None → StaysWithin d masks m.leaves
      → StaysWithin d masks (command d number m).leaves
  command-within m number o idle stays =
      let e : Event = events.Command (record { 0 = number }) in
      subst (λ n. StaysWithin d masks n.leaves) (ap (λ held. step_by d held e m) idle)
      (event-within m e o (subst (λ held. RespectsHold held e) (sym idle) tt) stays)

-- ---- a run

module _ (d : Desc) (sound : HasSoundDialogs d) (place : ℕ) (dialog : Dialog) (there : slice_get d.dialogs place ≡ Some dialog)
    (masks : List Mask) (closes : IsClosed dialog masks) where
  own_sound : IsSoundDialog dialog
  own_sound = sound-at d sound place dialog there

  same_dialog : (other : ℕ) (x : Dialog) → slice_get d.dialogs other ≡ Some x → other ≡ place → x ≡ dialog
  same_dialog other x found at =
      let both : Some x ≡ Some dialog = sym found ∙ ap (slice_get d.dialogs) at ∙ there in cc

  abbrev Within : State → Type 0
  Within s = IsWithin place dialog masks s

  module _ (s : State) (f : IsFitState d s) where
    -- the leaves of the open dialog are those of the description
    leaves_there : (o : OpenDialog) → s.dialog ≡ Some o → o.place ≡ place → map state_id o.leaves ≡ map leaf_id (leaf_list dialog.views)
    leaves_there o some at =
        let x = f.«open» o some in
        subst (λ y. map state_id o.leaves ≡ map leaf_id (leaf_list y.views)) (same_dialog o.place x.dialog x.there at) x.fit.standing.leaves

    own_open : (o : OpenDialog) → s.dialog ≡ Some o → o.place ≡ place → IsOpen dialog (modal_of s o)
    own_open o some at =
        let x = f.«open» o some in
        record {
          fit = subst (λ y. IsFitModal y (modal_of s o)) (same_dialog o.place x.dialog x.there at) x.fit;
          log = All-nil (NamesEndOf dialog);
          going = refl;
        }

  -- ---- a dialog that opens

  -- the leaves with which it opens lie within the list, with nothing saved or with what is saved
  abbrev Saved : State → Type 0
  Saved s = (entries : Entries) → saved_at s place ≡ Some entries → StaysWithin dialog masks (opened_leaves dialog (Some entries))

  opens_within : (s : State) → Saved s → (saved : Option Entries) → saved_at s place ≡ saved → StaysWithin dialog masks (opened_leaves dialog saved)
  opens_within s w None is = starts-within dialog own_sound masks closes
  opens_within s w (Some entries) is = w entries is

  shows_within : (s after : State) → IsFitState d s → Saved s → IsFitState d after → (o : OpenDialog) → after.dialog ≡ Some o → o.place ≡ place
      → ShowsSaved d s o → StaysWithin dialog masks o.leaves
  shows_within s after f w g o some at shows =
      let safe : IsSafeSave dialog (saved_at s place) = saved_safe d sound s f.kept place dialog there in
      let shown : fields_of o.leaves ≡ opened_record dialog (saved_at s place)
      = shows.shown ∙ ap (λ x. opened_record x (saved_at s o.place)) (same_dialog o.place shows.dialog shows.there at)
      ∙ ap (λ (n : ℕ). opened_record dialog (saved_at s n)) at in
      within-same dialog (opened_leaves dialog (saved_at s place)) o.leaves
      (shown-values dialog own_sound (saved_at s place) safe o.leaves (leaves_there after g o some at) shown) masks
      (opens_within s w (saved_at s place) refl)

  -- ---- an event

  module _ (s : State) (f : IsFitState d s) (w : Within s) where
    -- so does the open dialog, if there is one
    abbrev Opens : State → Type 0
    Opens after = (o : OpenDialog) → after.dialog ≡ Some o → o.place ≡ place → StaysWithin dialog masks o.leaves

    module _ (o : OpenDialog) (some : s.dialog ≡ Some o) where
      after_opens : (m : Modal) → (o.place ≡ place → StaysWithin dialog masks m.leaves) → (ended : Option ℕ) → Opens (after_work (with_empty_log s) o m ended)
      after_opens m stays None y is at =
          let same : dialog_after o m ≡ y = cc in
          subst (λ z. z.place ≡ place → StaysWithin dialog masks z.leaves) same stays at
      after_opens m stays (Some number) y is at = absurd (nothing y is)

      work_opens : (work : Dialog → Modal → Modal)
          → (o.place ≡ place → IsOpen dialog (modal_of s o) → StaysWithin dialog masks o.leaves → StaysWithin dialog masks (work dialog (modal_of s o)).leaves)
          → Opens (in_dialog d (with_empty_log s) o work)
      work_opens work keeps =
          let x = f.«open» o some in
          let m = work x.dialog (modal_of s o) in
          subst (λ found. Opens (works (with_empty_log s) o work found)) (sym x.there)
          (after_opens m
          (λ at. subst (λ y. StaysWithin dialog masks (work y (modal_of s o)).leaves) (sym (same_dialog o.place x.dialog x.there at))
          (keeps at (own_open s f o some at) (w.«open» o some at)))
          m.ended)

      comes_opens : (after : State) → Comes d sound s f o some after → Opens after
      comes_opens after (inl i) = λ y is at.
          let both : Some i.now ≡ Some y = sym i.is ∙ is in
          let same : i.now ≡ y = cc in
          subst (λ leaves. StaysWithin dialog masks leaves) (sym i.leaves ∙ ap (λ z. z.leaves) same)
          (w.«open» o some (sym i.place ∙ ap (λ z. z.place) same ∙ at))
      comes_opens after (inr (inl i)) =
          subst Opens (sym i.is)
          (work_opens (λ x m. dialog_step x i.event m)
          (λ at is stays. event-within dialog own_sound masks closes (modal_of s o) i.event is i.given stays))
      comes_opens after (inr (inr i)) =
          subst Opens (sym i.is)
          (work_opens (λ x m. command x (command_number i.item.command) m)
          (λ at is stays. command-within dialog own_sound masks closes (modal_of s o) (command_number i.item.command) is i.idle stays))

    step_opens : (e : Event) → Opens (step d s e)
    step_opens e =
        option_cases s.dialog (λ x. s.dialog ≡ x → Opens (step d s e))
        (λ is none o after at.
        shows_within s (step d s e) f w.saved (steps-fit d sound s e f) o after at (reopens-as-saved d sound s (step d s e) o f (by_event e refl) none after))
        (λ o is some. comes_opens o some (step d s e) (step-comes d sound s f o some e)) refl

    -- ---- what is saved

    -- the record of leaves that lie within the list
    saved_within : (o : OpenDialog) → s.dialog ≡ Some o → o.place ≡ place → IsSafeRecord dialog (fields_of o.leaves)
        → StaysWithin dialog masks (opened_leaves dialog (Some (fields_of o.leaves)))
    saved_within o some at safe =
        let saved = Some (fields_of o.leaves) in
        let is : IsSafeSave dialog saved = λ entries e. let same : fields_of o.leaves ≡ entries = cc in subst (IsSafeRecord dialog) same safe in
        within-same dialog o.leaves (opened_leaves dialog saved)
        (λ i. sym (shown-values dialog own_sound saved is o.leaves (leaves_there s f o some at) refl i)) masks (w.«open» o some at)

    module _ (after : State) where
      kept_saved : after.saved ≡ s.saved → Saved after
      kept_saved same entries is = w.saved entries (sym (ap (λ saved. unwrap_or (slice_get saved place) None) same) ∙ is)

      module _ (x : IsEnd d s after) (no_cancel : (x.number == 11) ≡ false) where
        new_saved : (entries : Entries) → (saved : Option Entries) → saved ≡ Some entries
            → ((place ≡ x.«open».place) × (saved ≡ Some (fields_of x.«open».leaves))) ⊎ (slice_get s.saved place ≡ Some saved)
            → StaysWithin dialog masks (opened_leaves dialog (Some entries))
        new_saved entries saved is (inl (at, set)) =
            let both : Some (fields_of x.«open».leaves) ≡ Some entries = sym set ∙ is in
            subst (λ y. StaysWithin dialog masks (opened_leaves dialog y)) both
            (saved_within x.«open» x.was (sym at)
            (subst (λ y. IsSafeRecord y (fields_of x.«open».leaves)) (same_dialog x.«open».place x.dialog x.there (sym at)) (x.saved no_cancel).safe))
        new_saved entries saved is (inr old) = w.saved entries (ap (λ y. unwrap_or y None) old ∙ is)

        ended_saved : Saved after
        ended_saved entries =
            option_cases (slice_get after.saved place)
            (λ y. unwrap_or y None ≡ Some entries → StaysWithin dialog masks (opened_leaves dialog (Some entries)))
            (λ none e. absurd (nothing entries e))
            (λ saved found e.
            new_saved entries saved e
            (get_set s.saved x.«open».place (Some (fields_of x.«open».leaves)) place saved
            (sym (ap (λ y. slice_get y place) (x.saved no_cancel).set) ∙ found)))

      next_saved : IsEndless s after ⊎ IsEnd d s after → Saved after
      next_saved (inl calm) entries is = kept_saved calm.saved entries is
      next_saved (inr x) entries is =
          bool_cases (x.number == 11) (λ b. (x.number == 11) ≡ b → StaysWithin dialog masks (opened_leaves dialog (Some entries)))
          (λ e cancelled. kept_saved (x.cancelled cancelled) entries is) (λ e other. ended_saved x other entries is) refl

    pub step-within : (e : Event) → Within (step d s e)
    step-within e = record {
      «open» = step_opens e;
      saved = next_saved (step d s e) (saves-what-it-logs d sound s (step d s e) f (by_event e refl));
    }

  -- ---- the start

  abbrev none_yet : Option Entries
  none_yet = None

  none_saved : (n j : ℕ) → unwrap_or (slice_get (replicate n none_yet) j) none_yet ≡ none_yet
  none_saved zero j = refl
  none_saved (suc n) zero = refl
  none_saved (suc n) (suc j) = none_saved n j

  found_saved : (at : ℕ) (x : Option Dialog) → (open_found (closed d) at x).saved ≡ (closed d).saved
  found_saved at None = refl
  found_saved at (Some x) = refl

  at_saved : (at : Option ℕ) → (started_at d at).saved ≡ (closed d).saved
  at_saved None = refl
  at_saved (Some at) = found_saved at (slice_get d.dialogs at)

  by_saved : (name : Option (List ℕ)) → (started_by d name).saved ≡ (closed d).saved
  by_saved None = refl
  by_saved (Some name) = at_saved (position (is_named name) d.dialogs)

  start_saved : saved_at (start d) place ≡ None
  start_saved = ap (λ saved. unwrap_or (slice_get saved place) None) (by_saved d.start) ∙ none_saved (length d.dialogs) place

  nothing_saved : Saved (start d)
  nothing_saved entries is = absurd (nothing entries (sym start_saved ∙ is))

  pub start-within : Within (start d)
  start-within = record {
    «open» = λ o some at.
        shows_within (start d) (start d) (start-fit d sound) nothing_saved (start-fit d sound) o some at (starts-as-declared d sound o some).0;
    saved = nothing_saved;
  }

  states-within : (events : List Event) (s : State) → IsFitState d s → Within s → Within (states (step d) s events)
  states-within [] s f w = w
  states-within (e ∷ events) s f w = states-within events (step d s e) (steps-fit d sound s e f) (step-within s f w e)

pub runs-within : (d : Desc) → HasSoundDialogs d → RunsWithin d
runs-within d sound place dialog masks events there closes =
    states-within d sound place dialog there masks closes events (start d) (start-fit d sound) (start-within d sound place dialog there masks closes)
