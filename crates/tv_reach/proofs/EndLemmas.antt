-- Who gave the command by which a dialog of a run has ended.
use Rattle.std.proofs.Common.{◌≡◌, ◌⊎◌, inl, inr, true, false, ◌||◌, ◌==◌, ℕ, zero, suc, ◌<◌, if◌then◌else◌, List, [], ◌∷◌, ◌++◌, map, length, position, Option, Some, None, refl, sym, ap, subst, ◌∙◌, All, arith}
use Rattle.std.specs.Prelude.{Contains, nat_le, slice_get, slice_index_or}
use Rattle.std.specs.List.{AllPairs}
use Rattle.std.proofs.lemmas.Bool.Decides.{nat_tests}
use Rattle.std.proofs.lemmas.List.Elements.{All-cons, All-head, All-nil, All-tail}
use Rattle.std.proofs.lemmas.Option.{get_or_from_slice_get, slice_get_within}
use Rattle.tv_event.specs.declared.event.Command.{Command}
use Rattle.tv_event.specs.declared.event.Event.{Event}
use Rattle.tv_model.specs.declared.node.Id.{Id}
use Rattle.tv_model.specs.declared.record.Entry.{Entry}
use Rattle.tv_model.specs.declared.desc.Desc.{Desc}
use Rattle.tv_model.specs.declared.desc.Dialog.{Dialog}
use Rattle.tv_model.specs.declared.log.LogLine.{LogLine}
use Rattle.tv_model.specs.declared.log.LogLine.TheVariants as lines
use Rattle.tv_model.specs.Description.Commands.{command_number, is_declared}
use Rattle.tv_model.specs.Description.Heads.{dialog_head, is_named}
use Rattle.tv_machine.specs.State.{OpenDialog, State}
use Rattle.tv_machine.specs.Dialog.Ending.{command, end_by, ended, field_line, fields_of, first_invalid}
use Rattle.tv_machine.specs.Dialog.Modal.{Modal, with_line}
use Rattle.tv_machine.specs.Dialog.Rules.{is_command_enabled}
use Rattle.tv_machine.specs.Dialog.Step.{dialog_step}
use Rattle.tv_machine.specs.Session.Commands.{after_work, in_dialog, modal_of, works}
use Rattle.tv_machine.specs.Session.Enabled.{enabled_by, enabled_in}
use Rattle.tv_machine.specs.Session.Start.{closed, start, started_at, started_by}
use Rattle.tv_machine.specs.Session.Step.{step, with_empty_log}
use Rattle.tv_machine.proofs.ListLemmas.{bool_cases, option_cases}
use Rattle.tv_laws.specs.Ends.{IsOpen, NamesEndOf}
use Rattle.tv_laws.specs.Fit.{IsFitModal}
use Rattle.tv_laws.specs.Records.{IsEnd, IsEndless, IsNoEnd}
use Rattle.tv_laws.specs.Runs.{HasSoundDialogs, IsFitState}
use Rattle.tv_laws.specs.Runs.IsNext.{by_event}
use Rattle.tv_laws.specs.Sound.{IsSoundDialog}
use Rattle.tv_laws.proofs.RecordLaws.IdleLemmas.{IsBeside, opens-beside, still-beside}
use Rattle.tv_laws.proofs.RecordLaws.OnceLemmas.{EndsLast, last-command, last-step}
use Rattle.tv_laws.proofs.RecordLaws.SavedLemmas.{saves-what-it-logs}
use Rattle.tv_laws.proofs.RunLemmas.{closed_kept}
use Rattle.tv_laws.proofs.WorkLemmas.{nothing, sound-at}
use Rattle.tv_reach.specs.Givers.{IsGiven}
use Rattle.tv_reach.specs.Goals.{HasEndedAt}
use Rattle.tv_reach.specs.Never.{DialogsRise, HasStatus}
use Rattle.tv_reach.proofs.GiverLemmas.{ends-are-given, shown_ended}
use Rattle.tv_reach.proofs.MaskLemmas.{any-weaker}
use Rattle.tv_reach.proofs.OpenStepLemmas.{Comes, step-comes}

-- ---- the line of an end

no_end : (log : List LogLine) (i : Id) (c : Command) → All IsNoEnd log → Contains log (lines.End i c) → ⊥
no_end log i c none there = subst IsNoEnd there.2 (none there.0 (lines.End i c) there.1)

fields_no_end : (entries : List Entry) → All IsNoEnd (map field_line entries)
fields_no_end [] = All-nil IsNoEnd
fields_no_end (entry ∷ entries) = All-cons IsNoEnd (field_line entry) (map field_line entries) tt (fields_no_end entries)

less_by_one : (k n : ℕ) → suc k < suc n → k < n
less_by_one k n less = omega (arith, less)

-- the only end among these lines
only_end : (before : List LogLine) (i j : Id) (c e : Command) (entries : List Entry) → All IsNoEnd before
    → (k : ℕ) → k < length (before ++ lines.End i c ∷ map field_line entries)
    → slice_index_or (before ++ lines.End i c ∷ map field_line entries) k (lines.End j e) ≡ lines.End j e → (j ≡ i) × (e ≡ c)
only_end [] i j c e entries none zero less is = (cc, cc)
only_end [] i j c e entries none (suc k) less is =
    absurd (no_end (map field_line entries) j e (fields_no_end entries) (k, less_by_one k (length (map field_line entries)) less, is))
only_end (line ∷ before) i j c e entries none zero less is = absurd (subst IsNoEnd is (All-head IsNoEnd line before none))
only_end (line ∷ before) i j c e entries none (suc k) less is =
    only_end before i j c e entries (All-tail IsNoEnd line before none) k
    (less_by_one k (length (before ++ lines.End i c ∷ map field_line entries)) less) is

-- ---- dialogs by their ids

abbrev Rises : Dialog → Dialog → Type 0
Rises x y = x.node.id.0 < y.node.id.0

below : (xs : List Dialog) (p q : ℕ) (x y : Dialog) → AllPairs Rises xs → slice_get xs p ≡ Some x → slice_get xs q ≡ Some y → p < q
    → x.node.id.0 < y.node.id.0
below xs p q x y rise at other less =
    subst (λ (z : Dialog). z.node.id.0 < y.node.id.0) (get_or_from_slice_get xs p x x at)
    (subst (λ (z : Dialog). (slice_index_or xs p x).node.id.0 < z.node.id.0) (get_or_from_slice_get xs q y x other)
    (rise p q x less (slice_get_within xs q y other)))

both_below : (p q : ℕ) → nat_le p q ≡ true → nat_le q p ≡ true → p ≡ q
both_below p q e f = grind (arith, nat_tests)

not_below : (p q : ℕ) → nat_le q p ≡ false → p < q
not_below p q e = grind (arith, nat_tests)

not_less : (a b : ℕ) → a < b → a ≡ b → ⊥
not_less a b less same = omega (arith, less, same)

one_place : (xs : List Dialog) (p q : ℕ) (x y : Dialog) → AllPairs Rises xs → slice_get xs p ≡ Some x → slice_get xs q ≡ Some y
    → x.node.id ≡ y.node.id → p ≡ q
one_place xs p q x y rise at other same =
    let number : x.node.id.0 ≡ y.node.id.0 = ap (λ i. i.0) same in
    bool_cases (nat_le p q) (λ b. nat_le p q ≡ b → p ≡ q)
    (λ is e. bool_cases (nat_le q p) (λ b. nat_le q p ≡ b → p ≡ q) (λ too f. both_below p q e f)
    (λ no f. absurd (not_less x.node.id.0 y.node.id.0 (below xs p q x y rise at other (not_below p q f)) number)) refl)
    (λ no e. absurd (not_less y.node.id.0 x.node.id.0 (below xs q p y x rise other at (not_below q p e)) (sym number)))
    refl

-- ---- a command that is handed in

some_same : (x y : ℕ) → Some x ≡ Some y → x ≡ y
some_same x y e = cc

-- a dialog that it ends was cancelled, or no input's text lay outside its domain
command_ends : (d : Dialog) (sound : IsSoundDialog d) (number : ℕ) (m : Modal) (n : ℕ) → m.ended ≡ None → (command d number m).ended ≡ Some n
    → (n ≡ 11) ⊎ ((n ≡ number) × (first_invalid d m ≡ None))
command_ends d sound number m n going =
    bool_cases ((number == 4) || (number == 11))
    (λ b. (if b then ended d 11 m else if is_declared (dialog_head d).ends number then end_by d number (first_invalid d m) m
    else if nat_le 100 number then with_line (lines.Command number) m else m).ended ≡ Some n
    → (n ≡ 11) ⊎ ((n ≡ number) × (first_invalid d m ≡ None)))
    (λ is e. inl (sym (some_same 11 n e)))
    (λ other. bool_cases (is_declared (dialog_head d).ends number)
    (λ b. (if b then end_by d number (first_invalid d m) m else if nat_le 100 number then with_line (lines.Command number) m else m).ended ≡ Some n
    → (n ≡ 11) ⊎ ((n ≡ number) × (first_invalid d m ≡ None)))
    (λ is. by (first_invalid d m) refl)
    (λ none. bool_cases (nat_le 100 number)
    (λ b. (if b then with_line (lines.Command number) m else m).ended ≡ Some n → (n ≡ 11) ⊎ ((n ≡ number) × (first_invalid d m ≡ None)))
    (λ own e. absurd (nothing n (sym going ∙ e))) (λ low e. absurd (nothing n (sym going ∙ e)))))
  where
    by : (invalid : Option Id) → first_invalid d m ≡ invalid → (end_by d number invalid m).ended ≡ Some n
        → (n ≡ 11) ⊎ ((n ≡ number) × (first_invalid d m ≡ None))
    by None is e = inr (sym (some_same number n e), is)
    by (Some i) is e = absurd (nothing n (sym (shown_ended d sound (with_line (lines.Invalid i) m) i ∙ going) ∙ e))

-- ---- a run

-- a status item gives the command, which is enabled, while no input's text lies outside its domain
pub record IsOrderedEnd (d : Desc) (dialog : Dialog) (m : Modal) (number : ℕ) : Type 0 where
  pub status : HasStatus d number
  pub enabled : is_command_enabled dialog m.leaves number ≡ true
  pub valid : first_invalid dialog m ≡ None

-- the dialog is open, and the command comes of a button, of a status item, or is `cancel`
pub record IsEndOf (d : Desc) (place : ℕ) (dialog : Dialog) (number : ℕ) (s : State) : Type 0 where
  pub «open» : OpenDialog
  pub some : s.dialog ≡ Some «open»
  pub at : «open».place ≡ place
  pub how : (number ≡ 11) ⊎ (IsGiven dialog (modal_of s «open») number ⊎ IsOrderedEnd d dialog (modal_of s «open») number)

module _ (d : Desc) (sound : HasSoundDialogs d) where
  -- ---- the start

  at_beside : (at : Option ℕ) → IsBeside d (closed d) (started_at d at)
  at_beside None = still-beside d sound (closed d) (closed_kept d sound) (closed d) (All-nil IsNoEnd, refl, refl, refl)
  at_beside (Some at) = opens-beside d sound (closed d) (closed_kept d sound) at (closed d) (All-nil IsNoEnd, refl, refl, refl)

  by_beside : (name : Option (List ℕ)) → IsBeside d (closed d) (started_by d name)
  by_beside None = at_beside None
  by_beside (Some name) = at_beside (position (is_named name) d.dialogs)

  -- nothing has ended at the start
  pub start-endless : (place : ℕ) (c : Command) → HasEndedAt d place c (start d) → ⊥
  start-endless place c h = no_end (start d).log h.dialog.node.id c (by_beside d.start).log h.logged

module _ (d : Desc) (sound : HasSoundDialogs d) (rise : DialogsRise d) (place : ℕ) (dialog : Dialog)
    (there : slice_get d.dialogs place ≡ Some dialog) (c : Command) where
  module _ (s : State) (f : IsFitState d s) where
    abbrev Ends : State → Type 0
    Ends after = HasEndedAt d place c after → IsEndOf d place dialog c.0 s

    endless : (after : State) → All IsNoEnd after.log → Ends after
    endless after none h = absurd (no_end after.log h.dialog.node.id c none h.logged)

    module _ (o : OpenDialog) (some : s.dialog ≡ Some o) where
      -- what its work comes to, where it ends
      work_ends : (work : Dialog → Modal → Modal)
          → ((x : Dialog) → EndsLast x o.leaves (work x (modal_of s o)))
          → (o.place ≡ place → IsOpen dialog (modal_of s o) → (n : ℕ) → (work dialog (modal_of s o)).ended ≡ Some n
          → (n ≡ 11) ⊎ (IsGiven dialog (modal_of s o) n ⊎ IsOrderedEnd d dialog (modal_of s o) n))
          → Ends (in_dialog d (with_empty_log s) o work)
      work_ends work last gives =
          let x = f.«open» o some in
          subst (λ found. Ends (works (with_empty_log s) o work found)) (sym x.there)
          (of x.dialog x.there x.fit (work x.dialog (modal_of s o)) refl (last x.dialog) (work x.dialog (modal_of s o)).ended)
        where
          log_after : (m : Modal) (over : Option ℕ) → (after_work (with_empty_log s) o m over).log ≡ m.log
          log_after m None = refl
          log_after m (Some number) = refl

          of : (x : Dialog) → slice_get d.dialogs o.place ≡ Some x → IsFitModal x (modal_of s o) → (m : Modal) → work x (modal_of s o) ≡ m
              → EndsLast x o.leaves m → (over : Option ℕ) → Ends (after_work (with_empty_log s) o m over)
          of x found fit m is (inl quiet) over h =
              absurd (no_end m.log h.dialog.node.id c quiet.0 (subst (λ log. Contains log (lines.End h.dialog.node.id c)) (log_after m over) h.logged))
          of x found fit m is (inr e) over h =
              let own : Some h.dialog ≡ Some dialog = sym h.there ∙ there in
              let own_is : h.dialog ≡ dialog = cc in
              let line : Contains m.log (lines.End h.dialog.node.id c)
              = subst (λ log. Contains log (lines.End h.dialog.node.id c)) (log_after m over) h.logged in
              let logged = subst (λ log. Contains log (lines.End h.dialog.node.id c)) (ap (λ n. n.log) e.is) line in
              let only = only_end e.before.log x.node.id h.dialog.node.id (record { 0 = e.number }) c (fields_of e.before.leaves) e.quiet.0
              logged.0 logged.1 logged.2 in
              let at : o.place ≡ place
              = one_place d.dialogs o.place place x dialog rise found there (sym only.0 ∙ ap (λ y. y.node.id) own_is) in
              let both : Some x ≡ Some dialog = sym found ∙ ap (slice_get d.dialogs) at ∙ there in
              let same : x ≡ dialog = cc in
              let number : c.0 ≡ e.number = ap (λ y. y.0) only.1 in
              let over_is : (work dialog (modal_of s o)).ended ≡ Some c.0
              = ap (λ y. (work y (modal_of s o)).ended) (sym same) ∙ ap (λ n. n.ended) is ∙ ap (λ n. n.ended) e.is ∙ ap (λ (n : ℕ). Some n) (sym number) in
              record {
                «open» = o;
                some = some;
                at = at;
                how = gives at (record { fit = subst (λ y. IsFitModal y (modal_of s o)) same fit; log = All-nil (NamesEndOf dialog); going = refl }) c.0 over_is;
              }

      comes_ends : (after : State) → Comes d sound s f o some after → Ends after
      comes_ends after (inl i) = endless after i.log
      comes_ends after (inr (inl i)) =
          subst Ends (sym i.is)
          (work_ends (λ x m. dialog_step x i.event m) (λ x. last-step x i.event (modal_of s o) (All-nil IsNoEnd, refl))
          (λ at is n over. of n (ends-are-given dialog (sound-at d sound place dialog there) (modal_of s o) i.event n is i.input over)))
        where
          of : (n : ℕ) → (n ≡ 11) ⊎ IsGiven dialog (modal_of s o) n
              → (n ≡ 11) ⊎ (IsGiven dialog (modal_of s o) n ⊎ IsOrderedEnd d dialog (modal_of s o) n)
          of n (inl cancel) = inl cancel
          of n (inr given) = inr (inl given)
      comes_ends after (inr (inr i)) =
          subst Ends (sym i.is)
          (work_ends (λ x m. command x (command_number i.item.command) m)
          (λ x. last-command x (command_number i.item.command) (modal_of s o) (All-nil IsNoEnd, refl))
          (λ at is n over. of at n (command_ends dialog (sound-at d sound place dialog there) (command_number i.item.command) (modal_of s o) n refl over)))
        where
          number : ℕ
          number = command_number i.item.command

          enabled : o.place ≡ place → is_command_enabled dialog o.leaves number ≡ true
          enabled at =
              sym (ap (enabled_by o.leaves number) (ap (slice_get d.dialogs) at ∙ there)) ∙ sym (ap (λ x. enabled_in d x number) some) ∙ i.enabled

          of : o.place ≡ place → (n : ℕ) → (n ≡ 11) ⊎ ((n ≡ number) × (first_invalid dialog (modal_of s o) ≡ None))
              → (n ≡ 11) ⊎ (IsGiven dialog (modal_of s o) n ⊎ IsOrderedEnd d dialog (modal_of s o) n)
          of at n (inl cancel) = inl cancel
          of at n (inr by) =
              inr (inr (subst (IsOrderedEnd d dialog (modal_of s o)) (sym by.0) (record {
                status = any-weaker (λ x. x ≡ i.item) (λ x. command_number x.command ≡ number) (λ x same. ap (λ y. command_number y.command) same) d.status i.there;
                enabled = enabled at;
                valid = by.1;
              })))

    idle_ends : (after : State) → s.dialog ≡ None → IsEndless s after ⊎ IsEnd d s after → Ends after
    idle_ends after none (inl calm) = endless after calm.log
    idle_ends after none (inr x) = absurd (nothing x.«open» (sym none ∙ x.was))

    -- an event that ends the dialog
    pub step-ends : (e : Event) → Ends (step d s e)
    step-ends e =
        option_cases s.dialog (λ x. s.dialog ≡ x → Ends (step d s e))
        (λ is none. idle_ends (step d s e) none (saves-what-it-logs d sound s (step d s e) f (by_event e refl)))
        (λ o is some. comes_ends o some (step d s e) (step-comes d sound s f o some e)) refl
