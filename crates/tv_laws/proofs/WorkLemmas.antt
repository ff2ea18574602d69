-- The open dialog works, and dialogs open: the run stays fit.
use Rattle.std.proofs.Common.{◌≡◌, ◌⊎◌, inl, inr, Bool, false, ◌==◌, ◌<◌, ℕ, zero, suc, if◌then◌else◌, List, [], ◌∷◌, map, filter, length, Option, Some, None, unwrap_or, refl, sym, ap, subst, ◌∙◌, All, arith}
use Rattle.std.specs.Prelude.{slice_get, slice_set}
use Rattle.std.proofs.lemmas.List.Elements.{All-append, All-head, All-nil, All-push, All-tail, All-weaker}
use Rattle.tv_cells.specs.Picture.{Picture}
use Rattle.tv_cells.specs.declared.rect.Point.{Point}
use Rattle.tv_model.specs.declared.node.Id.{Id}
use Rattle.tv_model.specs.declared.desc.Desc.{Desc}
use Rattle.tv_model.specs.declared.desc.Dialog.{Dialog}
use Rattle.tv_model.specs.declared.log.LogLine.{LogLine}
use Rattle.tv_model.specs.declared.log.LogLine.TheVariants as lines
use Rattle.tv_model.specs.Description.Rectangles.{corner_of}
use Rattle.tv_model.specs.Log.Record.{Entries}
use Rattle.tv_machine.specs.State.{HeldFrame, OpenDialog, OpenMenu, OpenWindow, State}
use Rattle.tv_machine.specs.Dialog.Ending.{fields_of}
use Rattle.tv_machine.specs.Dialog.Modal.{Modal}
use Rattle.tv_machine.specs.Dialog.Opening.{opened_dialog}
use Rattle.tv_machine.specs.Dialog.Rules.{is_among}
use Rattle.tv_machine.specs.Safe.{HasDeclaredEnd, HasTopCell, IsFitOverwriting, IsSafeFrame, IsSafeRecord, IsSafeSaved}
use Rattle.tv_machine.specs.Session.Commands.{after_work, in_dialog, modal_of, open_dialog, open_found, overwriting_at, saved_at, saved_by, with_line_logged, worked, works}
use Rattle.tv_laws.specs.Ends.{IsDone, NamesEndOf, IsOpen}
use Rattle.tv_laws.specs.Fit.{IsFitModal}
use Rattle.tv_laws.specs.Runs.{HasSoundDialogs, IsFitOpen, IsFitState, IsKept}
use Rattle.tv_laws.specs.Sound.{IsSoundDialog}
use Rattle.tv_laws.specs.Steps.{IsSafeSave}
use Rattle.tv_laws.proofs.FreeLemmas.{open-done}
use Rattle.tv_machine.proofs.ListLemmas.{bool_cases, option_cases}
use Rattle.tv_laws.proofs.OpenLemmas.{opens-fit}
use Rattle.tv_laws.proofs.StandLemmas.{fit-logged}

-- ---- lists by places

pub get_set : {A : Type 0} (xs : List A) (i : ℕ) (v : A) (j : ℕ) (x : A) → slice_get (slice_set xs i v) j ≡ Some x
    → ((j ≡ i) × (x ≡ v)) ⊎ (slice_get xs j ≡ Some x)
get_set [] i v j x e = inr e
get_set (y ∷ xs) zero v zero x e = inl (refl, cc)
get_set (y ∷ xs) zero v (suc j) x e = inr e
get_set (y ∷ xs) (suc i) v zero x e = inr e
get_set (y ∷ xs) (suc i) v (suc j) x e = of (get_set xs i v j x e)
  where
    of : ((j ≡ i) × (x ≡ v)) ⊎ (slice_get xs j ≡ Some x) → ((suc j ≡ suc i) × (x ≡ v)) ⊎ (slice_get xs j ≡ Some x)
    of (inl (at, is)) = inl (ap (λ (n : ℕ). suc n) at, is)
    of (inr same) = inr same

pub get_set_same : {A : Type 0} (xs : List A) (i : ℕ) (v : A) → i < length xs → slice_get (slice_set xs i v) i ≡ Some v
get_set_same [] i v less = absurd (omega arith)
get_set_same (y ∷ xs) zero v less = refl
get_set_same (y ∷ xs) (suc i) v less = get_set_same xs i v (omega arith)

pub length_set : {A : Type 0} (xs : List A) (i : ℕ) (v : A) → length (slice_set xs i v) ≡ length xs
length_set [] i v = refl
length_set (y ∷ xs) zero v = refl
length_set (y ∷ xs) (suc i) v = ap (λ (n : ℕ). suc n) (length_set xs i v)

pub get_less : {A : Type 0} (xs : List A) (i : ℕ) (x : A) → slice_get xs i ≡ Some x → i < length xs
get_less [] i x e = absurd cc
get_less (y ∷ xs) zero x e = omega arith
get_less (y ∷ xs) (suc i) x e = let r = get_less xs i x e in omega (arith, r)

pub get_all : {A : Type 0} (P : A → Type 0) (xs : List A) (i : ℕ) (x : A) → All P xs → slice_get xs i ≡ Some x → P x
get_all P [] i x all e = absurd cc
get_all P (y ∷ xs) zero x all e = let same : y ≡ x = cc in subst P same (All-head P y xs all)
get_all P (y ∷ xs) (suc i) x all e = get_all P xs i x (All-tail P y xs all) e

pub filter_none : (ids : List Id) → filter (is_among []) ids ≡ []
filter_none [] = refl
filter_none (i ∷ ids) = filter_none ids

pub nothing : {A : Type 0} (x : A) → None ≡ Some x → ⊥
nothing x e = cc

module _ (d : Desc) (sound : HasSoundDialogs d) where
  -- ---- what a state keeps

  -- nothing but its windows, its menu, its dialog and whether it is over changes
  pub kept-beside : (s : State) (over : Bool) (windows : List OpenWindow) (menu : Option OpenMenu) (dialog : Option OpenDialog) → IsKept d s
      → IsKept d (record s { is_over = over; windows = windows; menu = menu; dialog = dialog })
  kept-beside s over windows menu dialog k = record { saved = k.saved; records = k.records; places = k.places; ordered = k.ordered; ends = k.ends }

  pub kept-logged : (line : LogLine) (s : State) → HasDeclaredEnd d line → IsKept d s → IsKept d (with_line_logged line s)
  kept-logged line s is k = record { saved = k.saved; records = k.records; places = k.places; ordered = k.ordered; ends = All-push (HasDeclaredEnd d) s.log line k.ends is }

  -- no frame is held
  pub no-frame : (s : State) → s.frame ≡ None → (frame : HeldFrame) → s.frame ≡ Some frame → IsSafeFrame d s frame
  no-frame s free frame e = absurd (nothing frame (sym free ∙ e))

  -- nothing but the log changes
  pub relogged-fit : (s : State) (log : List LogLine) → All (HasDeclaredEnd d) log → IsFitState d s → IsFitState d (record s { log = log })
  relogged-fit s log ends f = record {
    kept = record { saved = f.kept.saved; records = f.kept.records; places = f.kept.places; ordered = f.kept.ordered; ends = ends };
    «open» = λ o e. let x = f.«open» o e in record { dialog = x.dialog; there = x.there; fit = x.fit; menu = x.menu; over = x.over; top = x.top };
    frame = λ frame e.
        let x = f.frame frame e in
        record { width = x.width; there = x.there; column = x.column; leaf = x.leaf; menu = x.menu; over = x.over };
  }

  pub sound-at : (place : ℕ) (dialog : Dialog) → slice_get d.dialogs place ≡ Some dialog → IsSoundDialog dialog
  sound-at place dialog there = get_all IsSoundDialog d.dialogs place dialog sound there

  -- ---- the work of a dialog

  module _ (s : State) (k : IsKept d s) (place : ℕ) (dialog : Dialog) (there : slice_get d.dialogs place ≡ Some dialog) where
    line_declared : (line : LogLine) → NamesEndOf dialog line → HasDeclaredEnd d line
    line_declared (lines.End i command) h = record { place = place; dialog = dialog; there = there; id = sym h.0; «end» = h.1 }
    line_declared _ h = tt

    pub ordered_at : overwriting_at s place ≡ filter (is_among (overwriting_at s place)) (map (λ view. view.id) dialog.views)
    ordered_at =
        option_cases (slice_get s.overwriting place) (λ o. unwrap_or o [] ≡ filter (is_among (unwrap_or o [])) (map (λ view. view.id) dialog.views))
        (λ none. sym (filter_none (map (λ view. view.id) dialog.views)))
        (λ ids found.
        let x = k.ordered place ids found in
        let both : Some x.dialog ≡ Some dialog = sym x.there ∙ there in
        let same : x.dialog ≡ dialog = cc in
        subst (λ y. ids ≡ filter (is_among ids) (map (λ view. view.id) y.views)) same x.ordered)

    pub saved_safe : IsSafeSave dialog (saved_at s place)
    saved_safe entries =
        option_cases (slice_get s.saved place) (λ o. unwrap_or o None ≡ Some entries → IsSafeRecord dialog entries)
        (λ none e. absurd (nothing entries e))
        (λ saved found e.
        let x = k.saved place entries (found ∙ ap (λ y. Some y) e) in
        let both : Some x.dialog ≡ Some dialog = sym x.there ∙ there in
        let same : x.dialog ≡ dialog = cc in
        subst (λ y. IsSafeRecord y entries) same x.record_of)

    module _ (m : Modal) (done : IsDone dialog m) where
      worked_kept : IsKept d (worked s place m)
      worked_kept = record {
        saved = k.saved;
        records = k.records;
        places = length_set s.overwriting place m.overwriting ∙ k.places;
        ordered = λ j ids e. at j ids (get_set s.overwriting place m.overwriting j ids e);
        ends = All-append (HasDeclaredEnd d) s.log m.log k.ends (All-weaker (NamesEndOf dialog) (HasDeclaredEnd d) line_declared m.log done.log);
      }
        where
          at : (j : ℕ) (ids : List Id) → ((j ≡ place) × (ids ≡ m.overwriting)) ⊎ (slice_get s.overwriting j ≡ Some ids)
              → IsFitOverwriting d j ids
          at j ids (inl (is, same)) =
              subst (λ (p : ℕ). IsFitOverwriting d p ids) (sym is)
              (subst (IsFitOverwriting d place) (sym same) (record { dialog = dialog; there = there; ordered = done.fit.standing.ordered }))
          at j ids (inr old) = k.ordered j ids old

      -- the dialog stands
      stands : (origin : Point) (sheet : Option Picture) → s.menu ≡ None → s.is_over ≡ false → s.frame ≡ None
          → (HasTopCell d (corner_of dialog.node) dialog.node.w → HasTopCell d origin dialog.node.w)
          → IsFitState d (record (worked s place m) { dialog = Some (record { place = place; origin = origin; sheet = sheet; leaves = m.leaves; focus = m.focus; held = m.held }) })
      stands origin sheet menu over free top =
          let o : OpenDialog = record { place = place; origin = origin; sheet = sheet; leaves = m.leaves; focus = m.focus; held = m.held } in
          let after : State = record (worked s place m) { dialog = Some o } in
          let less : place < length s.overwriting = subst (λ (n : ℕ). place < n) (sym k.places) (get_less d.dialogs place dialog there) in
          let same : overwriting_at after place ≡ m.overwriting = ap (λ x. unwrap_or x []) (get_set_same s.overwriting place m.overwriting less) in
          let fit : IsFitModal dialog (modal_of after o) =
          subst (λ ids. IsFitModal dialog (record { leaves = m.leaves; focus = m.focus; held = m.held; overwriting = ids; log = []; ended = None })) (sym same)
          (fit-logged dialog (sound-at place dialog there) m [] None done.fit) in
          record {
            kept = kept-beside (worked s place m) (worked s place m).is_over (worked s place m).windows (worked s place m).menu (Some o) worked_kept;
            «open» = λ x e. let this : o ≡ x = cc in subst (IsFitOpen d after) this (record { dialog = dialog; there = there; fit = fit; menu = menu; over = over; top = top });
            frame = no-frame after free;
          }

      -- the dialog has ended
      ends : (number : ℕ) → m.ended ≡ Some number → s.frame ≡ None
          → IsFitState d (record (worked s place m) { dialog = None; saved = saved_by place number m s.saved })
      ends number e free =
          let w = worked_kept in
          let after : State = record (worked s place m) { dialog = None; saved = saved_by place number m s.saved } in
          record {
            kept = record { saved = λ j entries f. at j entries f; records = as_many ∙ k.records; places = w.places; ordered = w.ordered; ends = w.ends };
            «open» = λ x f. absurd (nothing x f);
            frame = no-frame after free;
          }
        where
          as_many : length (saved_by place number m s.saved) ≡ length s.saved
          as_many =
              bool_cases (number == 11) (λ b. length (if b then s.saved else slice_set s.saved place (Some (fields_of m.leaves))) ≡ length s.saved) (λ cancelled. refl)
              (λ other. length_set s.saved place (Some (fields_of m.leaves)))

          new : (j : ℕ) (entries : Entries) → (number == 11) ≡ false
              → ((j ≡ place) × (Some entries ≡ Some (fields_of m.leaves))) ⊎ (slice_get s.saved j ≡ Some (Some entries))
              → IsSafeSaved d j entries
          new j entries other (inl (is, both)) =
              let same : entries ≡ fields_of m.leaves = cc in
              subst (λ (p : ℕ). IsSafeSaved d p entries) (sym is)
              (record { dialog = dialog; there = there; record_of = subst (IsSafeRecord dialog) (sym same) ((done.ends number e).saved other) })
          new j entries other (inr old) = k.saved j entries old

          at : (j : ℕ) (entries : Entries) → slice_get (saved_by place number m s.saved) j ≡ Some (Some entries) → IsSafeSaved d j entries
          at j entries =
              bool_cases (number == 11) (λ b. slice_get (if b then s.saved else slice_set s.saved place (Some (fields_of m.leaves))) j ≡ Some (Some entries) → IsSafeSaved d j entries)
              (λ cancelled f. k.saved j entries f)
              (λ other f. new j entries other (get_set s.saved place (Some (fields_of m.leaves)) j (Some entries) f))

  -- the open dialog works
  pub dialog-works : (s : State) (o : OpenDialog) (work : Dialog → Modal → Modal) → s.dialog ≡ Some o → IsFitState d s
      → s.frame ≡ None → ((dialog : Dialog) → IsSoundDialog dialog → IsOpen dialog (modal_of s o) → IsDone dialog (work dialog (modal_of s o)))
      → IsFitState d (in_dialog d s o work)
  dialog-works s o work e f free keeps =
      let x = f.«open» o e in
      let m = work x.dialog (modal_of s o) in
      let done = keeps x.dialog (sound-at o.place x.dialog x.there) (record { fit = x.fit; log = All-nil (NamesEndOf x.dialog); going = refl }) in
      subst (λ found. IsFitState d (works s o work found)) (sym x.there)
      (option_cases m.ended (λ over. IsFitState d (after_work s o m over)) (λ none. stands s f.kept o.place x.dialog x.there m done o.origin o.sheet x.menu x.over free x.top)
      (λ number ended. ends s f.kept o.place x.dialog x.there m done number ended free))

  -- a dialog opens
  pub dialog-opens : (place : ℕ) (s : State) → IsFitState d s → s.menu ≡ None → s.is_over ≡ false → s.frame ≡ None
      → IsFitState d (open_dialog d place s)
  dialog-opens place s f menu over free =
      option_cases (slice_get d.dialogs place) (λ found. IsFitState d (open_found s place found)) (λ none. f)
      (λ dialog there.
      let m = opened_dialog dialog (saved_at s place) (overwriting_at s place) in
      let is = opens-fit dialog (sound-at place dialog there) (saved_at s place) (overwriting_at s place) (saved_safe s f.kept place dialog there) (ordered_at s f.kept place dialog there) in
      stands (with_line_logged (lines.Open dialog.node.id) s) (kept-logged (lines.Open dialog.node.id) s tt f.kept) place dialog there m (open-done dialog m is.0) (corner_of dialog.node) None menu over free
      (λ top. top))
